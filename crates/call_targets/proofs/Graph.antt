-- The call graph of the sets and of what instructions use.
use Rattle.std.proofs.Common.{◌≡◌, ℕ, ◌<◌, ◌≤◌, List, [], length, map, refl, sym, ap, ◌∙◌, ⊎_elim, arith, Option, Some, None, option_map, slice_get}
use Rattle.std.specs.Prelude.{slice_index_or}
use Rattle.std.specs.List.{All, AllPairs, filter, range_with_len}
use Rattle.std.proofs.lemmas.Bool.{cases_lt}
use Rattle.std.proofs.lemmas.List.{get_or-map, get_or_past, length-map}
use Rattle.std.proofs.lemmas.List.Elements.{All-filter, All-from_get_or, All-map}
use Rattle.std.proofs.lemmas.List.FromFn.{get_or-range_with_len, length-range_with_len}
use Rattle.std.proofs.lemmas.List.Kept.{AllPairs-filter}
use Rattle.std.proofs.lemmas.Option.{slice_get-map, slice_get_cases, slice_get_past, slice_get_within}
use Rattle.ns_base.specs.declared.rows.MethodNo.{MethodNo}
use Rattle.app_model.specs.CallGraph.{AreRising, FitsCode, GraphParts, IsGraph, TargetParts, no_targets, set_of, targets_at, targets_of, use_at}
use Rattle.app_model.specs.LockUse.{invoke_of}
use Rattle.app_model.specs.Parts.{AppParts}
use Rattle.app_model.specs.Sound.{IsSoundApp}
use Rattle.app_model.specs.Targets.{IsCallGraph, finds, method_no, row_of, targets_by, targets_in}
use Rattle.app_model.specs.Words.{code_len, ins_of, named_at, place_at, places_of}
use Rattle.call_targets.specs.Numbered.{IsNumbered, IsUse, NumberedParts}
use Rattle.call_targets.specs.Sources.{found_from, row_from}
use Rattle.call_targets.specs.declared.numbers.SetRow.{SetRow}
use Rattle.call_targets.specs.declared.sources.Source.{Source}
use Rattle.call_targets.specs.Made.{all_rows}

-- ---- each row rises, with methods of the application
range_rises : (n : ℕ) → AllPairs (λ (a b : ℕ). a < b) (range_with_len 0 n)
range_rises n i j d before within =
    let len = length-range_with_len 0 n in
    let a = get_or-range_with_len 0 n i d (omega (arith, before, within, len)) in
    let b = get_or-range_with_len 0 n j d (omega (arith, within, len)) in
    omega (arith, a, b, before)

map_rises : (xs : List ℕ) → AllPairs (λ (a b : ℕ). a < b) xs → AreRising (map method_no xs)
map_rises xs up i j d before within =
    let len = length-map xs method_no in
    let a = ap (λ (m : MethodNo). m.0) (get_or-map method_no xs i 0 d (omega (arith, before, within, len))) in
    let b = ap (λ (m : MethodNo). m.0) (get_or-map method_no xs j 0 d (omega (arith, within, len))) in
    omega (arith, a, b, up i j 0 before (omega (arith, within, len)))

row_rises : (n : ℕ) (found : List (Option ℕ)) → AreRising (row_of n found).callees
unfolding row_of
row_rises n found = map_rises _ (AllPairs-filter (λ (a b : ℕ). a < b) (finds found) (range_with_len 0 n) (range_rises n))

row_within : (n : ℕ) (found : List (Option ℕ)) → All (λ (m : MethodNo). m.0 < n) (row_of n found).callees
unfolding row_of
row_within n found =
    All-map (λ (m : MethodNo). m.0 < n) method_no (filter (finds found) (range_with_len 0 n))
    (All-filter (finds found) (λ (k : ℕ). k < n) (range_with_len 0 n)
    (All-from_get_or (λ (k : ℕ). k < n) (range_with_len 0 n) 0 (λ i lt. let len = length-range_with_len 0 n in omega (arith, get_or-range_with_len 0 n i 0 (omega (arith, lt, len)), lt, len))))

module _ (app : AppParts) (sound : IsSoundApp app) (parts : NumberedParts) (numbered : IsNumbered app parts) where
  abbrev pub graph_of : GraphParts
  graph_of = record { sets = all_rows app parts.rows; uses = parts.uses }

  source_rises : (source : Source) → AreRising (row_from app source).callees
  unfolding row_from
  source_rises source = row_rises (length app.methods) (found_from app source)

  source_within : (source : Source) → All (λ (m : MethodNo). m.0 < length app.methods) (row_from app source).callees
  unfolding row_from
  source_within source = row_within (length app.methods) (found_from app source)

  no_code : (m : ℕ) → length app.methods ≤ m → code_len app m ≡ 0
  unfolding places_of
  no_code m past = ap (λ body. length body.places) (get_or_past app.code m _ (omega (arith, past, sound.sizes.code)))

  rows_fit : (m : ℕ) → length (slice_index_or parts.uses m []) ≡ code_len app m
  rows_fit m = ⊎_elim
      (λ (lt : m < length app.methods). (numbered.uses m lt).len)
      (λ (past : length app.methods ≤ m). ap length (get_or_past parts.uses m [] (omega (arith, past, numbered.methods))) ∙ sym (no_code m past))
      (cases_lt m (length app.methods))

  fits : FitsCode app graph_of
  fits = record {
    methods = numbered.methods;
    rows = rows_fit;
    callees = All-map (λ (set : TargetParts). All (λ (n : MethodNo). n.0 < length app.methods) set.callees) (λ (set : SetRow). row_from app set.source) parts.rows (λ k d within. source_within _);
  }

  -- ---- each instruction
  told : (m i : ℕ) (used : Option ℕ) → IsUse app parts.rows used m i → set_of graph_of (Some used) ≡ targets_in app m i
  told m i None is = sym is
  told m i (Some s) is = ap targets_of (slice_get-map (λ (set : SetRow). row_from app set.source) parts.rows s ∙ ap (option_map (λ (set : SetRow). row_from app set.source)) is.there) ∙ is.is

  used_there : (m i : ℕ) (used : Option ℕ) → slice_get (slice_index_or parts.uses m []) i ≡ Some used → IsUse app parts.rows used m i
  used_there m i used e = ⊎_elim
      (λ (lt : m < length app.methods). (numbered.uses m lt).each i used e)
      (λ (past : length app.methods ≤ m). absurd (let lt = slice_get_within (slice_index_or parts.uses m []) i used e in omega (arith, lt, rows_fit m, no_code m past)))
      (cases_lt m (length app.methods))

  none_there : (m i : ℕ) → code_len app m ≤ i → no_targets ≡ targets_in app m i
  unfolding targets_in place_at
  none_there m i past = sym (ap (λ place. targets_by app m (invoke_of (ins_of place)) (named_at app m i)) (slice_get_past (places_of app m) i past) ∙ refl)

  rows_told : (m i : ℕ) → targets_at graph_of m i ≡ targets_in app m i
  unfolding targets_at use_at
  rows_told m i = ⊎_elim
      (λ at. ap (set_of graph_of) at.2 ∙ told m i at.0 (used_there m i at.0 at.2))
      (λ past. ap (set_of graph_of) past.1 ∙ none_there m i (omega (arith, past.0, rows_fit m)))
      (slice_get_cases (slice_index_or parts.uses m []) i).1

  pub is_call_graph : IsCallGraph app graph_of
  is_call_graph = record { fits = fits; rows = rows_told }

  within : (m i s : ℕ) → use_at graph_of m i ≡ Some (Some s) → s < length graph_of.sets
  unfolding use_at
  within m i s e = let is = used_there m i (Some s) e in omega (arith, slice_get_within parts.rows s is.set is.there, length-map parts.rows (λ (set : SetRow). row_from app set.source))

  pub is_graph : IsGraph graph_of
  is_graph = record {
    uses = within;
    rising = All-map (λ (set : TargetParts). AreRising set.callees) (λ (set : SetRow). row_from app set.source) parts.rows (λ k d lt. source_rises _);
  }
