-- Calls of one key can call the same.
use Rattle.std.proofs.Common.{◌≡◌, ℕ, ◌||◌, ◌&&◌, Bool, true, false, List, [], ◌∷◌, length, refl, sym, ap, ap₂, ◌∙◌, eqb, eq-eqb, Option, Some, None, slice_get, subst}
use Rattle.std.specs.Prelude.{if◌then◌else◌}
use Rattle.std.specs.Option.{option_eq}
use Rattle.std.proofs.lemmas.Bool.{and_parts, eqb-true, false≢true}
use Rattle.app_model.specs.declared.calls.By.{By}
use Rattle.app_model.specs.declared.calls.By.TheVariants as by
use Rattle.app_model.specs.declared.rows.Named.{Named}
use Rattle.app_model.specs.CallGraph.{TargetParts}
use Rattle.app_model.specs.Hierarchy.{parent_of}
use Rattle.app_model.specs.Parts.{AppParts}
use Rattle.app_model.specs.Targets.{CallKey, call_by, class_at, class_of_method, found_above, found_by, found_of, is_foreign, key_of, plain_form, row_of, same_caller, same_key, super_of, targets_of_call}
use Rattle.class_graph.proofs.Lists.{same_test}
use Rattle.call_targets.specs.Numbered.{same_parts}
use Rattle.call_targets.specs.Sources.{key_parts, named_parts}
use Rattle.call_targets.specs.declared.sources.Key.{Key}

-- ---- keys that are the same
abbrev pub same_number : ℕ → ℕ → Bool
same_number x y = eqb x y

caller_same : (a b : Option ℕ) → option_eq same_number a b ≡ same_caller a b
caller_same None None = refl
caller_same None (Some y) = refl
caller_same (Some x) None = refl
caller_same (Some x) (Some y) = refl

pub one_caller : (a b : Option ℕ) → option_eq same_number a b ≡ true → a ≡ b
one_caller None None e = refl
one_caller None (Some y) e = absurd (false≢true e)
one_caller (Some x) None e = absurd (false≢true e)
one_caller (Some x) (Some y) e = ap Some (eqb-true x y e)

itself_caller : (a : Option ℕ) → option_eq same_number a a ≡ true
itself_caller None = refl
itself_caller (Some x) = eq-eqb x x refl

pub one_key : (a b : Key) → same_parts a b ≡ true → a ≡ b
one_key a b e =
    let kind = and_parts _ _ e in
    let caller = and_parts _ _ kind.1 in
    let class = and_parts _ _ caller.1 in
    let named = and_parts _ _ class.1 in
    rw (eqb-true a.kind b.kind kind.0) (rw (one_caller a.caller b.caller caller.0) (rw (eqb-true a.class b.class class.0) (rw (eqb-true a.name b.name named.0) (rw (eqb-true a.proto b.proto named.1) refl))))

pub itself_key : (a : Key) → same_parts a a ≡ true
itself_key a = rw (eq-eqb a.kind a.kind refl, itself_caller a.caller, eq-eqb a.class a.class refl, eq-eqb a.name a.name refl, eq-eqb a.proto a.proto refl) refl

pub key_same : (a b : CallKey) → same_parts (key_parts b) (key_parts a) ≡ same_key a b
key_same a b =
    same_test (same_parts (key_parts b) (key_parts a)) (same_parts (key_parts a) (key_parts b)) (λ e. turn (key_parts b) (key_parts a) e) (λ e. turn (key_parts a) (key_parts b) e)
    ∙ ap (λ c. eqb a.kind b.kind && (c && (eqb a.named.class.0 b.named.class.0 && (eqb a.named.name.0 b.named.name.0 && eqb a.named.proto.0 b.named.proto.0)))) (caller_same a.caller b.caller)
  where
    turn : (x y : Key) → same_parts x y ≡ true → same_parts y x ≡ true
    turn x y e = subst (λ z. same_parts y z ≡ true) (sym (one_key x y e)) (itself_key y)

-- ---- what a key tells
abbrev found_by_key : AppParts → (caller : Option ℕ) → By → Named → List (Option ℕ)
found_by_key app caller by.Virtual named = found_by app 0 by.Virtual named
found_by_key app caller by.Super named = found_above app (parent_of (class_at app caller)) named ∷ []
found_by_key app caller by.Direct named = found_by app 0 by.Direct named
found_by_key app caller by.Static named = found_by app 0 by.Static named

abbrev row_by_key : AppParts → (kind : ℕ) → (caller : Option ℕ) → Named → TargetParts
row_by_key app kind caller named = row_of (length app.methods) (if is_foreign app kind named then None ∷ [] else found_by_key app caller (call_by kind) named)

abbrev caller_of : AppParts → (m kind : ℕ) → Option ℕ
caller_of app m kind = if eqb kind 111 then class_of_method (slice_get app.methods m) else None

-- a call is told by the plain form of its opcode
abbrev IsTold : AppParts → (m op : ℕ) → Named → Type 0
IsTold app m op named = targets_of_call app m op named ≡ row_by_key app (plain_form op) (caller_of app m (plain_form op)) named

module _ (app : AppParts) (m : ℕ) (named : Named) where
  -- neither by range nor of a superclass
  told_plain : (op : ℕ) → eqb op 116 ≡ false → eqb op 117 ≡ false → eqb op 118 ≡ false → eqb op 119 ≡ false → eqb op 120 ≡ false → eqb op 111 ≡ false → IsTold app m op named
  unfolding targets_of_call found_of
  told_plain op a b c d e f =
      let plain : plain_form op ≡ op = rw (a, b, c, d, e) refl in
      let call : call_by op ≡ other (eqb op 112 || eqb op 118) (eqb op 113 || eqb op 119) = rw (f, b) refl in
      ap (λ (found : List (Option ℕ)). row_of (length app.methods) (if is_foreign app op named then None ∷ [] else found))
      (ap (λ how. found_by app m how named) call ∙ same (eqb op 112 || eqb op 118) (eqb op 113 || eqb op 119) ∙ ap₂ (λ how caller. found_by_key app caller how named) (sym call) (sym (ap (λ x. if x then class_of_method (slice_get app.methods m) else None) f)))
      ∙ ap (λ kind. row_by_key app kind (caller_of app m kind) named) (sym plain)
    where
      other : Bool → Bool → By
      other direct static = if direct then by.Direct else (if static then by.Static else by.Virtual)

      same : (direct static : Bool) → found_by app m (other direct static) named ≡ found_by_key app None (other direct static) named
      same true static = refl
      same false true = refl
      same false false = refl

  pub told : (op : ℕ) → IsTold app m op named
  unfolding targets_of_call found_of super_of is_foreign
  told op = on (eqb op 116) (λ e. at 116 e refl) (λ a. on (eqb op 117) (λ e. at 117 e refl) (λ b. on (eqb op 118) (λ e. at 118 e refl) (λ c.
      on (eqb op 119) (λ e. at 119 e refl) (λ d. on (eqb op 120) (λ e. at 120 e refl) (λ e. on (eqb op 111) (λ f. at 111 f refl) (λ f. told_plain op a b c d e f))))))
    where
      at : (kind : ℕ) → eqb op kind ≡ true → IsTold app m kind named → IsTold app m op named
      at kind e h = subst (λ x. IsTold app m x named) (sym (eqb-true op kind e)) h

      on : (b : Bool) → (b ≡ true → IsTold app m op named) → (b ≡ false → IsTold app m op named) → IsTold app m op named
      on true then_so else_so = then_so refl
      on false then_so else_so = else_so refl

pub same_calls : (app : AppParts) (m k op kind : ℕ) (a b : Named) → key_parts (key_of app m op a) ≡ key_parts (key_of app k kind b) → targets_of_call app m op a ≡ targets_of_call app k kind b
same_calls app m k op kind a b e =
    told app m a op ∙ ap (λ (key : Key). row_by_key app key.kind key.caller (named_parts key.class key.name key.proto)) e ∙ sym (told app k b kind)
