-- A table of calls, call by call.
use Rattle.std.proofs.Common.{◌≡◌, ℕ, zero, suc, ◌+◌, ◌*◌, ◌||◌, Bool, true, false, cond, List, [], ◌∷◌, ◌++◌, length, refl, sym, ap, ap₂, ◌∙◌, arith, Some, None, is_some, slice_get, slice_set, subst, append_assoc}
use Rattle.std.specs.Prelude.{if◌then◌else◌}
use Rattle.std.specs.Map.{lookup}
use Rattle.std.proofs.lemmas.Bool.{and_parts, eqb-true}
use Rattle.std.proofs.lemmas.Option.{same_Some}
use Rattle.app_model.specs.declared.rows.Named.{Named}
use Rattle.app_model.specs.CallGraph.{TargetParts}
use Rattle.app_model.specs.Parts.{AppParts}
use Rattle.app_model.specs.Targets.{CallAt, CallKey, callee_count, key_at, key_of, same_key, targets_of_call}
use Rattle.call_targets.specs.Numbered.{Adds, AddsCall, AddsSource, HasSource, IsSet, IsTable, TableParts, entries_after, entries_with, has_key, number_in, one_more, same_parts, same_source, weigh}
use Rattle.call_targets.specs.Sources.{key_parts, row_from}
use Rattle.call_targets.specs.declared.numbers.SetRow.{SetRow}
use Rattle.call_targets.specs.declared.sources.Key.{Key}
use Rattle.call_targets.specs.declared.sources.Source.{Source}
use Rattle.call_targets.proofs.Members.{get_front, get_last}
use Rattle.call_targets.proofs.Keys.{key_same, one_caller, one_key, same_calls}

-- ---- sources that are the same
one_source : (a b : Source) → same_source a b ≡ true → a ≡ b
one_source a b e =
    let one = and_parts _ _ e in
    let below = and_parts _ _ one.1 in
    let named = and_parts _ _ below.1 in
    rw (one_caller a.one b.one one.0) (rw (one_caller a.below b.below below.0) (rw (eqb-true a.name b.name named.0) (rw (eqb-true a.proto b.proto named.1) refl)))

from_zero : (n : ℕ) → 0 + n ≡ n
from_zero n = omega arith

-- ---- sets that stay, with other counts
abbrev Stay : List SetRow → List SetRow → Type 0
Stay old new = (s : ℕ) (set : SetRow) → slice_get old s ≡ Some set → HasSource new set.source s

stay_push : (rows : List SetRow) (row : SetRow) → Stay rows (rows ++ row ∷ [])
stay_push rows row s set e = record { set = set; there = get_front rows row s set e; is = refl }

stay_more : (rows : List SetRow) (s : ℕ) (row : SetRow) → slice_get rows s ≡ Some row → Stay rows (slice_set rows s (one_more row))
stay_more [] s row e k set f = absurd (cc)
stay_more (r ∷ rows) zero row e zero set f = record { set = one_more row; there = refl; is = ap (λ (x : SetRow). x.source) (sym (same_Some r row e) ∙ same_Some r set f) }
stay_more (r ∷ rows) zero row e (suc k) set f = record { set = set; there = f; is = refl }
stay_more (r ∷ rows) (suc s) row e zero set f = record { set = set; there = f; is = refl }
stay_more (r ∷ rows) (suc s) row e (suc k) set f = let h = stay_more rows s row e k set f in record { set = h.set; there = h.there; is = h.is }

source_kept : (old new : List SetRow) → Stay old new → (source : Source) (s : ℕ) → HasSource old source s → HasSource new source s
source_kept old new stay source s has = let h = stay s has.set has.there in record { set = h.set; there = h.there; is = h.is ∙ has.is }

module _ (app : AppParts) where
  abbrev pub Kept : List SetRow → List SetRow → Type 0
  Kept old new = (s : ℕ) (targets : TargetParts) → IsSet app old targets s → IsSet app new targets s

  kept : (old new : List SetRow) → Stay old new → Kept old new
  kept old new stay s targets is = let h = stay s is.set is.there in record { set = h.set; there = h.there; is = ap (row_from app) h.is ∙ is.is }

  -- ---- their weight
  weigh_push : (rows : List SetRow) (source : Source) → weigh app (rows ++ record { source = source; keys = 0 } ∷ []) ≡ weigh app rows
  weigh_push [] source = omega arith
  weigh_push (r ∷ rows) source = ap (λ n. r.keys * length (row_from app r.source).callees + n) (weigh_push rows source)

  weigh_more : (rows : List SetRow) (s : ℕ) (row : SetRow) → slice_get rows s ≡ Some row → weigh app (slice_set rows s (one_more row)) ≡ weigh app rows + length (row_from app row.source).callees
  weigh_more [] s row e = absurd (cc)
  weigh_more (r ∷ rows) zero row e =
      let f : r ≡ row = same_Some r row e in
      rw f (step row.keys (length (row_from app row.source).callees) (weigh app rows))
    where
      step : (k w n : ℕ) → (k + 1) * w + n ≡ k * w + n + w
      step k w n = grind arith
  weigh_more (r ∷ rows) (suc s) row e = omega (arith, weigh_more rows s row e)

  -- ---- entries of calls to come
  pub after_same : (f g : CallKey → Bool) → ((key : CallKey) → f key ≡ g key) → (calls : List CallAt) → entries_after app f calls ≡ entries_after app g calls
  after_same f g h [] = refl
  after_same f g h (call ∷ calls) =
      ap₂ (λ (b : Bool) (n : ℕ). (if b then 0 else callee_count app call) + n) (h (key_at app call))
      (after_same (λ key. same_key key (key_at app call) || f key) (λ key. same_key key (key_at app call) || g key) (λ key. ap (λ b. same_key key (key_at app call) || b) (h key)) calls)

  -- ---- a source
  pub source_there : (table : TableParts) (source : Source) (s : ℕ) → IsTable app table → lookup (same_source source) table.sources ≡ Some s → AddsSource app source table table s
  source_there table source s is e = record {
    there = is.sources source s e;
    table = is;
    kept = λ k targets set. set;
    keys = refl;
    weight = refl;
  }

  pub source_new : (old new : TableParts) (source : Source) (n : ℕ) → n ≡ length old.rows → IsTable app old → new.keys ≡ old.keys → new.rows ≡ old.rows ++ record { source = source; keys = 0 } ∷ []
      → ((q : Source) → lookup (same_source q) new.sources ≡ cond (same_source source q) (Some n) (lookup (same_source q) old.sources)) → AddsSource app source old new n
  source_new old new source n at is keys rows sources = record {
    there = last;
    table = record {
      keys = λ m op named s e. kept old.rows new.rows stay s _ (is.keys m op named s (ap (λ k. number_in k (key_parts (key_of app m op named))) (sym keys) ∙ e));
      sources = λ q s e. by q s (same_source source q) refl (sym (sources q) ∙ e);
    };
    kept = kept old.rows new.rows stay;
    keys = keys;
    weight = ap (weigh app) rows ∙ weigh_push old.rows source;
  }
    where
      row : SetRow
      row = record { source = source; keys = 0 }

      last : HasSource new.rows source n
      last = record { set = row; there = ap₂ (λ (rs : List SetRow) (k : ℕ). slice_get rs k) rows at ∙ get_last old.rows row; is = refl }

      stay : Stay old.rows new.rows
      stay s set e = subst (λ rs. HasSource rs set.source s) (sym rows) (stay_push old.rows row s set e)

      by : (q : Source) (s : ℕ) (b : Bool) → same_source source q ≡ b → cond (same_source source q) (Some n) (lookup (same_source q) old.sources) ≡ Some s → HasSource new.rows q s
      by q s true f e =
          let g : n ≡ s = same_Some _ _ (ap (λ x. cond x (Some n) (lookup (same_source q) old.sources)) (sym f) ∙ e) in
          subst (λ k. HasSource new.rows q k) g (subst (λ k. HasSource new.rows k n) (one_source source q f) last)
      by q s false f e = source_kept old.rows new.rows stay q s (is.sources q s (ap (λ x. cond x (Some n) (lookup (same_source q) old.sources)) (sym f) ∙ e))

  -- ---- a call
  pub call_there : (table : TableParts) (call : CallAt) (s : ℕ) → IsTable app table → number_in table.keys (key_parts (key_at app call)) ≡ Some s → AddsCall app call table table s
  call_there table call s is e = record {
    adds = record {
      table = is;
      kept = λ k targets set. set;
      count = λ rest. ap (λ n. weigh app table.rows + n) (
          ap (λ (b : Bool). (if b then 0 else callee_count app call) + entries_after app (λ key. same_key key (key_at app call) || has_key table.keys key) rest) (ap is_some e)
          ∙ from_zero (entries_after app (λ key. same_key key (key_at app call) || has_key table.keys key) rest)
          ∙ after_same (λ key. same_key key (key_at app call) || has_key table.keys key) (has_key table.keys) counted rest);
    };
    set = is.keys call.method call.op call.named s e;
  }
    where
      counted : (key : CallKey) → (same_key key (key_at app call) || has_key table.keys key) ≡ has_key table.keys key
      counted key = by (same_key key (key_at app call)) refl
        where
          by : (b : Bool) → same_key key (key_at app call) ≡ b → (same_key key (key_at app call) || has_key table.keys key) ≡ has_key table.keys key
          by true f = rw f (sym (ap (λ k. is_some (number_in table.keys k)) (sym (one_key _ _ (key_same key (key_at app call) ∙ f))) ∙ ap is_some e))
          by false f = rw f refl

  pub call_new : (old mid new : TableParts) (call : CallAt) (source : Source) (s : ℕ) (added : AddsSource app source old mid s) → new.rows ≡ slice_set mid.rows s (one_more added.there.set) → new.sources ≡ mid.sources
      → ((q : Key) → number_in new.keys q ≡ cond (same_parts (key_parts (key_at app call)) q) (Some s) (number_in mid.keys q))
      → number_in old.keys (key_parts (key_at app call)) ≡ None → row_from app source ≡ targets_of_call app call.method call.op call.named → AddsCall app call old new s
  call_new old mid new call source s added rows sources keys none told = record {
    adds = record {
      table = record {
        keys = λ m op named k e. by m op named k (same_parts (key_parts (key_at app call)) (key_parts (key_of app m op named))) refl (sym (keys (key_parts (key_of app m op named))) ∙ e);
        sources = λ q k e. source_kept mid.rows new.rows stay q k (added.table.sources q k (ap (lookup (same_source q)) (sym sources) ∙ e));
      };
      kept = λ k targets is. kept mid.rows new.rows stay k targets (added.kept k targets is);
      count = counts;
    };
    set = own;
  }
    where
      stay : Stay mid.rows new.rows
      stay k set e = subst (λ rs. HasSource rs set.source k) (sym rows) (stay_more mid.rows s added.there.set added.there.there k set e)

      own : IsSet app new.rows (targets_of_call app call.method call.op call.named) s
      own = kept mid.rows new.rows stay s _ (record { set = added.there.set; there = added.there.there; is = ap (row_from app) added.there.is ∙ told })

      by : (m op : ℕ) (named : Named) (k : ℕ) (b : Bool) → same_parts (key_parts (key_at app call)) (key_parts (key_of app m op named)) ≡ b
          → cond (same_parts (key_parts (key_at app call)) (key_parts (key_of app m op named))) (Some s) (number_in mid.keys (key_parts (key_of app m op named))) ≡ Some k
          → IsSet app new.rows (targets_of_call app m op named) k
      by m op named k true f e =
          let g : s ≡ k = same_Some _ _ (ap (λ x. cond x (Some s) (number_in mid.keys (key_parts (key_of app m op named)))) (sym f) ∙ e) in
          rw (← g, ← same_calls app call.method m call.op op call.named named (one_key _ _ f)) own
      by m op named k false f e = kept mid.rows new.rows stay k _ (added.table.keys m op named k (ap (λ x. cond x (Some s) (number_in mid.keys (key_parts (key_of app m op named)))) (sym f) ∙ e))

      tests : (key : CallKey) → (same_key key (key_at app call) || has_key old.keys key) ≡ has_key new.keys key
      tests key = at (same_key key (key_at app call)) refl
        where
          at : (b : Bool) → same_key key (key_at app call) ≡ b → (same_key key (key_at app call) || has_key old.keys key) ≡ has_key new.keys key
          at true f = rw f (sym (ap is_some (keys (key_parts key)) ∙ ap (λ b. is_some (cond b (Some s) (number_in mid.keys (key_parts key)))) (key_same key (key_at app call) ∙ f)))
          at false f = rw f (sym (ap is_some (keys (key_parts key)) ∙ ap (λ b. is_some (cond b (Some s) (number_in mid.keys (key_parts key)))) (key_same key (key_at app call) ∙ f) ∙ ap (λ ks. has_key ks key) added.keys))

      weight : weigh app new.rows ≡ weigh app old.rows + callee_count app call
      weight = ap (weigh app) rows ∙ weigh_more mid.rows s added.there.set added.there.there ∙ ap₂ (λ (n : ℕ) (t : TargetParts). n + length t.callees) added.weight (ap (row_from app) added.there.is ∙ told)

      counts : (rest : List CallAt) → entries_with app old (call ∷ rest) ≡ entries_with app new rest
      counts rest =
          ap (λ (b : Bool). weigh app old.rows + ((if b then 0 else callee_count app call) + entries_after app (λ key. same_key key (key_at app call) || has_key old.keys key) rest)) (ap is_some none)
          ∙ omega (arith, weight, after_same (λ key. same_key key (key_at app call) || has_key old.keys key) (has_key new.keys) tests rest)

  -- ---- several calls
  pub adds_none : (table : TableParts) → IsTable app table → Adds app [] table table
  adds_none table is = record { table = is; kept = λ s targets set. set; count = λ rest. refl }

  pub adds_more : (first second : List CallAt) (old mid new : TableParts) → Adds app first old mid → Adds app second mid new → Adds app (first ++ second) old new
  adds_more first second old mid new a b = record {
    table = b.table;
    kept = λ s targets set. b.kept s targets (a.kept s targets set);
    count = λ rest. ap (entries_with app old) (append_assoc first second rest) ∙ a.count (second ++ rest) ∙ b.count rest;
  }
