-- What instructions use, instruction by instruction and method by method.
use Rattle.std.proofs.Common.{◌≡◌, ℕ, zero, suc, ◌+◌, ◌<◌, ◌≤◌, false, List, [], ◌∷◌, ◌++◌, length, refl, sym, ap, ◌∙◌, ⊎_elim, arith, Option, Some, None, subst}
use Rattle.std.specs.Prelude.{if◌then◌else◌, filter_map, flat_map, slice_index_or}
use Rattle.std.specs.List.{list_any, range_with_len}
use Rattle.std.proofs.lemmas.Bool.{cases_lt}
use Rattle.std.proofs.lemmas.Grind.{flat_map-append}
use Rattle.std.proofs.lemmas.List.{append-nil, get_or_append_left, get_or_push, length-append}
use Rattle.std.proofs.lemmas.List.Elements.{filter_map-append}
use Rattle.std.proofs.lemmas.Option.{same_Some}
use Rattle.app_model.specs.declared.rows.Named.{Named}
use Rattle.app_model.specs.CallGraph.{no_targets}
use Rattle.app_model.specs.Parts.{AppParts}
use Rattle.app_model.specs.Targets.{CallAt, CallKey, call_of, callee_count, calls_in, calls_of, entries_from, entry_count, key_at, same_key, targets_by, targets_in, targets_of_call}
use Rattle.app_model.specs.Words.{code_len}
use Rattle.call_targets.specs.Numbered.{Adds, AddsCall, AddsMethods, AddsUse, AddsUses, AreUses, IsNumbered, IsSet, IsTable, IsUse, TableParts, call_at, calls_below, calls_from, entries_after}
use Rattle.call_targets.specs.declared.numbers.SetRow.{SetRow}
use Rattle.call_targets.proofs.Members.{get_grown}
use Rattle.call_targets.proofs.Numbering.{Kept, adds_more, adds_none}

range_more : (a n : ℕ) → range_with_len a (suc n) ≡ range_with_len a n ++ (a + n) ∷ []
range_more a zero = ap (λ k. k ∷ []) (omega arith)
range_more a (suc n) = ap (λ ks. a ∷ ks) (range_more (a + 1) n ∙ ap (λ k. range_with_len (a + 1) n ++ k ∷ []) (omega arith))

module _ (app : AppParts) where
  use_kept : (old new : List SetRow) → Kept app old new → (used : Option ℕ) (m i : ℕ) → IsUse app old used m i → IsUse app new used m i
  use_kept old new kept None m i is = is
  use_kept old new kept (Some s) m i is = kept s (targets_in app m i) is

  uses_kept : (old new : List SetRow) → Kept app old new → (m n : ℕ) (uses : List (Option ℕ)) → AreUses app old m n uses → AreUses app new m n uses
  uses_kept old new kept m n uses are = record { len = are.len; each = λ i used e. use_kept old new kept used m i (are.each i used e) }

  -- ---- one instruction
  no_call : (m : ℕ) (op : Option ℕ) (named : Option Named) → call_of m op named ≡ None → targets_by app m op named ≡ no_targets
  no_call m (Some op) (Some named) e = absurd (cc)
  no_call m (Some op) None e = refl
  no_call m None named e = refl

  own_call : (m : ℕ) (op : Option ℕ) (named : Option Named) (call : CallAt) → call_of m op named ≡ Some call → targets_by app m op named ≡ targets_of_call app call.method call.op call.named
  own_call m (Some op) (Some named) call e = ap (λ (c : CallAt). targets_of_call app c.method c.op c.named) (same_Some _ _ e)
  own_call m (Some op) None call e = absurd (cc)
  own_call m None named call e = absurd (cc)

  pub use_none : (m i : ℕ) (table : TableParts) → IsTable app table → call_at app m i ≡ None → AddsUse app m i table table None
  unfolding targets_in
  use_none m i table is e = record {
    adds = subst (λ calls. Adds app calls table table) (sym calls) (adds_none app table is);
    is = no_call m _ _ e;
  }
    where
      calls : calls_from app m i 1 ≡ []
      calls = rw e refl

  pub use_call : (m i : ℕ) (call : CallAt) (old new : TableParts) (s : ℕ) → call_at app m i ≡ Some call → AddsCall app call old new s → AddsUse app m i old new (Some s)
  unfolding targets_in
  use_call m i call old new s e added = record {
    adds = subst (λ calls. Adds app calls old new) (sym calls) added.adds;
    is = subst (λ t. IsSet app new.rows t s) (sym (own_call m _ _ call e)) added.set;
  }
    where
      calls : calls_from app m i 1 ≡ call ∷ []
      calls = rw e refl

  -- ---- the instructions of a method
  pub uses_none : (m : ℕ) (table : TableParts) → IsTable app table → AddsUses app m 0 table table []
  uses_none m table is = record { adds = adds_none app table is; are = record { len = refl; each = λ i used e. absurd (cc) } }

  pub uses_more : (m n : ℕ) (old mid new : TableParts) (uses : List (Option ℕ)) (used : Option ℕ) → AddsUses app m n old mid uses → AddsUse app m n mid new used → AddsUses app m (n + 1) old new (uses ++ used ∷ [])
  uses_more m n old mid new uses used a b = record {
    adds = subst (λ calls. Adds app calls old new) (sym calls) (adds_more app (calls_from app m 0 n) (calls_from app m n 1) old mid new a.adds b.adds);
    are = record {
      len = length-append uses (used ∷ []) ∙ ap (λ k. k + 1) a.are.len;
      each = λ i u e. ⊎_elim
          (λ l. use_kept mid.rows new.rows b.adds.kept u m i (a.are.each i u l))
          (λ r. let at : n ≡ i = sym (r.0 ∙ a.are.len) in subst (λ k. IsUse app new.rows u m k) at (subst (λ x. IsUse app new.rows x m n) r.1 b.is))
          (get_grown uses used i u e);
    };
  }
    where
      calls : calls_from app m 0 (n + 1) ≡ calls_from app m 0 n ++ calls_from app m n 1
      calls =
          let e : n + 1 ≡ suc n = omega arith in
          let f : 0 + n ≡ n = omega arith in
          ap (calls_from app m 0) e ∙ ap (filter_map (call_at app m)) (range_more 0 n ∙ ap (λ k. range_with_len 0 n ++ k ∷ []) f) ∙ filter_map-append (call_at app m) (range_with_len 0 n) (n ∷ [])

  -- ---- all methods
  pub methods_none : (table : TableParts) → IsTable app table → AddsMethods app 0 table table []
  methods_none table is = record { adds = adds_none app table is; len = refl; are = λ m lt. absurd (omega (arith, lt)) }

  pub methods_more : (n : ℕ) (old mid new : TableParts) (uses : List (List (Option ℕ))) (row : List (Option ℕ)) → AddsMethods app n old mid uses → AddsUses app n (code_len app n) mid new row
      → AddsMethods app (n + 1) old new (uses ++ row ∷ [])
  methods_more n old mid new uses row a b = record {
    adds = subst (λ calls. Adds app calls old new) (sym calls) (adds_more app (calls_below app n) (calls_from app n 0 (code_len app n)) old mid new a.adds b.adds);
    len = length-append uses (row ∷ []) ∙ ap (λ k. k + 1) a.len;
    are = λ m lt. ⊎_elim
        (λ (less : m < n). subst (AreUses app new.rows m (code_len app m)) (sym (get_or_append_left uses (row ∷ []) [] m (omega (arith, less, a.len)))) (uses_kept mid.rows new.rows b.adds.kept m _ _ (a.are m less)))
        (λ (ge : n ≤ m). let at : n ≡ m = omega (arith, lt, ge) in subst (λ k. AreUses app new.rows k (code_len app k) (slice_index_or (uses ++ row ∷ []) k [])) at
        (subst (AreUses app new.rows n (code_len app n)) (sym (get_or_push uses row [] n a.len)) b.are))
        (cases_lt m n);
  }
    where
      calls : calls_below app (n + 1) ≡ calls_below app n ++ calls_from app n 0 (code_len app n)
      calls =
          let e : n + 1 ≡ suc n = omega arith in
          let f : 0 + n ≡ n = omega arith in
          ap (calls_below app) e ∙ ap (flat_map (calls_in app)) (range_more 0 n ∙ ap (λ k. range_with_len 0 n ++ k ∷ []) f) ∙ flat_map-append (calls_in app) (range_with_len 0 n) (n ∷ [])
          ∙ ap (λ cs. calls_below app n ++ cs) (append-nil (calls_in app n))

  from_after : (seen : List CallKey) (calls : List CallAt) → entries_after app (λ key. list_any (same_key key) seen) calls ≡ entries_from app seen calls
  from_after seen [] = refl
  from_after seen (call ∷ calls) = ap (λ n. (if list_any (same_key (key_at app call)) seen then 0 else callee_count app call) + n) (from_after (key_at app call ∷ seen) calls)

  abbrev pub empty : TableParts
  empty = record { keys = []; sources = []; rows = [] }

  pub empty_table : IsTable app empty
  empty_table = record { keys = λ m op named s e. absurd (cc); sources = λ source s e. absurd (cc) }

  pub all_numbered : (table : TableParts) (uses : List (List (Option ℕ))) → AddsMethods app (length app.methods) empty table uses → IsNumbered app (record { rows = table.rows; uses = uses })
  unfolding entry_count calls_of
  all_numbered table uses a = record {
    methods = a.len;
    uses = a.are;
    count =
        let e = a.adds.count [] in
        let f = ap (entries_after app (λ key. false)) (append-nil (calls_below app (length app.methods))) in
        omega (arith, e, f, from_after [] (calls_below app (length app.methods)));
  }
