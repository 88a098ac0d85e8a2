-- The registers with which a callback's method begins are as the entry's tags say, and free values are no locks.
use Rattle.std.proofs.Common.{None, Some, Option, Bool, true, false, if◌then◌else◌, refl, ◌≡◌, ℕ, zero, suc, ◌-◌, ◌<◌, List, [], ◌∷◌, ◌++◌, length, map, replicate, get_or, slice_get, ap, ◌∙◌, arith, length-append}
use Rattle.std.specs.List.{flat_map, range_with_len, sum_by}
use Rattle.std.proofs.lemmas.List.{length-replicate}
use Rattle.std.proofs.lemmas.List.Concat.{flat_map-cons}
use Rattle.std.proofs.lemmas.List.Sums.{sum_by-cons}
use Rattle.ns_base.specs.declared.rows.TypeNo.{TypeNo}
use Rattle.app_model.specs.declared.rows.MethodRow.{MethodRow}
use Rattle.app_model.specs.declared.tag.Tag.{Tag}
use Rattle.app_model.specs.declared.tag.Tag.TheVariants as tag
use Rattle.app_model.specs.Components.{ComponentParts}
use Rattle.app_model.specs.Names.{type_text}
use Rattle.app_model.specs.Parts.{AppParts, ProtoParts}
use Rattle.dalvik.specs.Descriptors.{is_reference, words_of}
use Rattle.app_model.specs.Sound.{params_len}
use Rattle.act_model.specs.Changes.{tag_in, given_tag, written_tag}
use Rattle.act_model.specs.declared.act.Written.{Written}
use Rattle.act_model.specs.declared.act.Written.TheVariants as written
use Rattle.act_model.specs.declared.act.Gives.{Gives}
use Rattle.act_model.specs.declared.act.Gives.TheVariants as gives
use Rattle.act_model.specs.Entries.{callback_row, callback_words, entry_row, fitted}
use Rattle.run_model.specs.Heaps.{Value, Zero, Object, Heap, is_lock}
use Rattle.run_model.specs.Frames.{free_numbers, free_references, free_objects, answers_of, written_values}
use Rattle.run_model.specs.Calls.{entry_values}
use Rattle.run_model.specs.Machine.{argument_words, parameter_words, this_of}
use Rattle.run_model.specs.Choices.{chosen}
use Rattle.run_model.specs.Relation.{AreTagged, Each, IsSolid, Means}
use Rattle.run_model.proofs.Members.{each_append, each_map, each_flat_map, each_all}

abbrev pub NoLock : Value → Type 0
NoLock v = is_lock v ≡ false

numbers_ok : Each NoLock free_numbers
numbers_ok = (refl, (refl, tt))

objects_solid : (app : AppParts) → Each IsSolid (free_objects app)
objects_solid app =
    each_append IsSolid (map (λ t. Object (Some t)) (range_with_len 0 (length app.types))) (Object None ∷ [])
    (each_map (λ (t : ℕ). Unit {0}) IsSolid (λ t. Object (Some t)) (λ t _. tt) (range_with_len 0 (length app.types)) (each_all (λ (t : ℕ). Unit {0}) (λ t. tt) (range_with_len 0 (length app.types))))
    (tt, tt)

pub references_ok : (app : AppParts) → Each NoLock (free_references app)
references_ok app = (
  refl,
  each_append NoLock (map (λ t. Object (Some t)) (range_with_len 0 (length app.types))) (Object None ∷ [])
      (each_map (λ (t : ℕ). Unit {0}) NoLock (λ t. Object (Some t)) (λ t _. refl) (range_with_len 0 (length app.types)) (each_all (λ (t : ℕ). Unit {0}) (λ t. tt) (range_with_len 0 (length app.types))))
      (refl, tt),
)

-- what is written is as its tag says
pub written_ok : (app : AppParts) (what : Written) (lo hi : ℕ) (h : Heap) → Each (λ v. Means (written_tag what) v lo hi h) (written_values app what)
written_ok app written.Zero lo hi h = (refl, tt)
written_ok app written.Nonzero lo hi h = (tt, tt)
written_ok app written.Number lo hi h = numbers_ok
written_ok app written.Reference lo hi h = references_ok app
written_ok app written.FreeObject lo hi h = objects_solid app
written_ok app written.Pair lo hi h = numbers_ok
written_ok app written.Text lo hi h = (tt, tt)
written_ok app written.ClassObject lo hi h = (tt, tt)
written_ok app (written.Typed kind) lo hi h = (tt, tt)

-- what the outside answers is as the tag of the result says
pub answers_ok : (app : AppParts) (given : Gives) (lo hi : ℕ) (h : Heap) → Each (λ v. Means (given_tag given) v lo hi h) (answers_of app given)
answers_ok app gives.Nothing lo hi h = (refl, tt)
answers_ok app gives.Number lo hi h = numbers_ok
answers_ok app gives.Object lo hi h = references_ok app

-- ---- the words of a callback's parameters: no locks, and as many as the prototype says
words_no_lock : (app : AppParts) (text : List ℕ) → Each NoLock (if is_reference text then free_references app else free_numbers)
words_no_lock app text = by (is_reference text)
  where
    by : (b : Bool) → Each NoLock (if b then free_references app else free_numbers)
    by true = references_ok app
    by false = numbers_ok

replicated : (n : ℕ) (values : List Value) → Each NoLock values → Each (Each NoLock) (replicate n values)
replicated zero values ok = tt
replicated (suc n) values ok = (ok, replicated n values ok)

parameters_no_lock : (app : AppParts) (proto : Option ProtoParts) → Each (Each NoLock) (parameter_words app proto)
parameters_no_lock app None = tt
parameters_no_lock app (Some proto) =
    each_flat_map (λ (t : TypeNo). Unit {0}) (Each NoLock) (λ (t : TypeNo). argument_words app (type_text app t.0))
    (λ t _. replicated (words_of (type_text app t.0)) _ (words_no_lock app (type_text app t.0))) proto.params (each_all (λ (t : TypeNo). Unit {0}) (λ t. tt) proto.params)

params_counted : (app : AppParts) (params : List TypeNo) → length (flat_map (λ (t : TypeNo). argument_words app (type_text app t.0)) params) ≡ sum_by (λ (t : TypeNo). words_of (type_text app t.0)) params
params_counted app [] = refl
params_counted app (t ∷ ts) =
    let words = λ (t : TypeNo). argument_words app (type_text app t.0) in
    let here : length (words t) ≡ words_of (type_text app t.0) = length-replicate (words_of (type_text app t.0)) _ in
    let rest = params_counted app ts in
    rw (flat_map-cons words t ts, length-append, here, sum_by-cons (λ (t : TypeNo). words_of (type_text app t.0)) t ts, rest) refl

parameters_counted : (app : AppParts) (proto : Option ProtoParts) → length (parameter_words app proto) ≡ params_len app proto
parameters_counted app None = refl
parameters_counted app (Some proto) = params_counted app proto.params

-- so many values, none of them a lock
pub record AreFree (n : ℕ) (values : List Value) : Type 0 where
  pub count : length values ≡ n
  pub each : Each NoLock values

chosen_free : (words : List (List Value)) → Each (Each NoLock) words → Each (AreFree (length words)) (chosen words)
chosen_free [] ok = (record { count = refl; each = tt }, tt)
chosen_free (word ∷ words) ok =
    each_flat_map NoLock (AreFree (suc (length words))) (λ v. map (λ vs. v ∷ vs) (chosen words))
    (λ v free. each_map (AreFree (length words)) (AreFree (suc (length words))) (λ vs. v ∷ vs) (λ vs f. record { count = ap suc f.count; each = (free, f.each) }) (chosen words) (chosen_free words ok.1)) word ok.0

module _ (lo hi : ℕ) (h : Heap) where
  -- the values of a row, one by one
  abbrev pub AreMeant : List Tag → List Value → Type 0
  AreMeant [] [] = Unit {0}
  AreMeant [] (v ∷ vs) = ⊥
  AreMeant (t ∷ ts) [] = ⊥
  AreMeant (t ∷ ts) (v ∷ vs) = Means t v lo hi h × AreMeant ts vs

  meant_append : (ts : List Tag) (vs : List Value) (us : List Tag) (ws : List Value) → AreMeant ts vs → AreMeant us ws → AreMeant (ts ++ us) (vs ++ ws)
  meant_append [] [] us ws a b = b
  meant_append [] (v ∷ vs) us ws a b = absurd a
  meant_append (t ∷ ts) [] us ws a b = absurd a
  meant_append (t ∷ ts) (v ∷ vs) us ws a b = (a.0, meant_append ts vs us ws a.1 b)

  meant_zeros : (n : ℕ) → AreMeant (replicate n tag.Zero) (replicate n Zero)
  meant_zeros zero = tt
  meant_zeros (suc n) = (refl, meant_zeros n)

  meant_length : (ts : List Tag) (vs : List Value) → AreMeant ts vs → length vs ≡ length ts
  meant_length [] [] a = refl
  meant_length [] (v ∷ vs) a = absurd a
  meant_length (t ∷ ts) [] a = absurd a
  meant_length (t ∷ ts) (v ∷ vs) a = ap suc (meant_length ts vs a.1)

  meant_each : (ts : List Tag) (vs : List Value) → AreMeant ts vs → (r : ℕ) → r < length ts → Means (tag_in ts r) (get_or vs r Zero) lo hi h
  meant_each [] [] a r lt = absurd (omega arith)
  meant_each [] (v ∷ vs) a r lt = absurd a
  meant_each (t ∷ ts) [] a r lt = absurd a
  meant_each (t ∷ ts) (v ∷ vs) a zero lt = a.0
  meant_each (t ∷ ts) (v ∷ vs) a (suc r) lt = meant_each ts vs a.1 r (omega (arith, lt))

  pub meant_tagged : (ts : List Tag) (vs : List Value) → AreMeant ts vs → AreTagged ts vs lo hi h
  meant_tagged ts vs a = record { count = meant_length ts vs a; each = meant_each ts vs a }

  -- free values are as tags of what is no lock say
  free_meant : (n : ℕ) (values : List Value) → length values ≡ n → Each NoLock values → AreMeant (replicate n tag.Any) values
  free_meant zero [] count free = tt
  free_meant zero (v ∷ vs) count free = absurd (omega (arith, count))
  free_meant (suc n) [] count free = absurd (omega (arith, count))
  free_meant (suc n) (v ∷ vs) count free = (free.0, free_meant n vs (omega (arith, count)) free.1)

  meant_fitted : (n : ℕ) (ts : List Tag) (vs : List Value) → AreMeant ts vs → AreMeant (fitted tag.Zero n ts) (fitted Zero n vs)
  meant_fitted zero ts vs a = tt
  meant_fitted (suc n) [] [] a = (refl, meant_fitted n [] [] tt)
  meant_fitted (suc n) [] (v ∷ vs) a = absurd a
  meant_fitted (suc n) (t ∷ ts) [] a = absurd a
  meant_fitted (suc n) (t ∷ ts) (v ∷ vs) a = (a.0, meant_fitted n ts vs a.1)

  this_solid : (app : AppParts) (component : Option ComponentParts) → IsSolid (this_of app component)
  this_solid app None = tt
  this_solid app (Some component) = tt

  pub meant_entry : (registers ins : ℕ) (ts : List Tag) (vs : List Value) → AreMeant ts vs → AreTagged (entry_row tag.Zero registers ins ts) (entry_row Zero registers ins vs) lo hi h
  meant_entry registers ins ts vs a =
      meant_tagged _ _
      (meant_append (replicate (registers - ins) tag.Zero ++ fitted tag.Zero ins ts) (replicate (registers - ins) Zero ++ fitted Zero ins vs) (tag.Zero ∷ []) (Zero ∷ [])
      (meant_append (replicate (registers - ins) tag.Zero) (replicate (registers - ins) Zero) (fitted tag.Zero ins ts) (fitted Zero ins vs) (meant_zeros (registers - ins)) (meant_fitted ins ts vs a)) (refl, tt))

  -- the registers with which a method begins as a callback, by the words that were chosen
  pub no_entry_ok : (app : AppParts) → AreTagged (callback_row app None) [] lo hi h
  no_entry_ok app = meant_tagged [] [] tt

  pub entry_ok : (app : AppParts) (component : Option ComponentParts) (method : MethodRow) (words : List Value) → AreFree (length (parameter_words app (slice_get app.protos method.proto.0))) words
      → AreTagged (callback_row app (Some method)) (entry_values (Some method) (this_of app component ∷ words)) lo hi h
  entry_ok app component method words free =
      meant_entry method.registers method.ins (callback_words app method) (this_of app component ∷ words)
      (this_solid app component, free_meant (params_len app (slice_get app.protos method.proto.0)) words (free.count ∙ parameters_counted app (slice_get app.protos method.proto.0)) free.each)

pub parameters_free : (app : AppParts) (proto : Option ProtoParts) → Each (AreFree (length (parameter_words app proto))) (chosen (parameter_words app proto))
parameters_free app proto = chosen_free (parameter_words app proto) (parameters_no_lock app proto)
