-- Lists of watchers, as they are seen.
use Rattle.std.proofs.Common.{◌≡◌, ℕ, ◌≤◌, ◌<◌, ◌++◌, ◌≢◌, true, false, List, [], length, map, take, Option, Some, None, option_map, slice_get, ◌⊎◌, inl, inr, refl, sym, ap, subst, ◌∙◌, arith, append-nil}
use Rattle.std.proofs.lemmas.List.{length-map}
use Rattle.std.proofs.lemmas.Option.{slice_get-map}
use Rattle.ns_base.specs.Outside.{Rose}
use Rattle.ns_base.specs.declared.answers.Event.{Event}
use Rattle.ns_base.specs.declared.answers.Exit.{Exit}
use Rattle.ns_base.specs.declared.answers.Exit.TheVariants as exits
use Rattle.watchers.specs.Telling.{IsTold, Seen, ToldAll, is_chosen}
use Rattle.nosleep.specs.declared.telling.Told.{Told}
use Rattle.app_model.specs.Subject.{SubjectParts}
use Rattle.watchers.specs.Writing.{WroteAll}
use Rattle.nosleep.specs.Answer.{IsExact, IsFailure, IsStarved, IsUnjudged, IsUntold, Judges}
use Rattle.nosleep.specs.Ending.{HasExit, IsExitBy}
use Rattle.nosleep.specs.Events.{AreWatchersTold, AtEach, IsToldEnd, OneRose}
use Rattle.nosleep.specs.Judged.{IsJudgement}
use Rattle.nosleep.specs.Words.{Form}
use Rattle.nosleep.proofs.Places.{same_places}

-- what is seen at a place is of what stands there
mapped_at : {A B : Type 0} (f : A → B) (xs : List A) (i : ℕ) (y : B) → slice_get (map f xs) i ≡ Some y → (x : A) × (slice_get xs i ≡ Some x) × (y ≡ f x)
mapped_at {A} {B} f xs i y e = by (slice_get xs i) refl (sym (slice_get-map f xs i) ∙ e) where
  by : (o : Option A) → slice_get xs i ≡ o → option_map f o ≡ Some y → (x : A) × (slice_get xs i ≡ Some x) × (y ≡ f x)
  by None at e = absurd (let no : ⊥ = cc in no)
  by (Some x) at e = let same : y ≡ f x = cc in (x, at, same)

map_at : {A B : Type 0} (f : A → B) (xs : List A) (i : ℕ) (x : A) → slice_get xs i ≡ Some x → slice_get (map f xs) i ≡ Some (f x)
map_at f xs i x at = slice_get-map f xs i ∙ ap (λ o. option_map f o) at

seen_each : {A : Type 0} (f : A → Seen) (P : Seen → Seen → Type 0) (before now : List A) → ((i : ℕ) (old new : A) → slice_get before i ≡ Some old → slice_get now i ≡ Some new → P (f old) (f new))
    → AtEach P (map f before) (map f now)
seen_each f P before now each i old new there here =
    let o = mapped_at f before i old there in
    let n = mapped_at f now i new here in
    subst (λ (s : Seen). P s new) (sym o.2) (subst (λ (s : Seen). P (f o.0) s) (sym n.2) (each i o.0 n.0 o.1 n.1))

-- the telling
module _ {A : Type 0} (f : A → Seen) (exit : Exit) (kinds : List ℕ) (all : List Event) (told : Told) (result : Exit) (before now : List A)
    (whole : told.failed ≡ 0 → told.starved ≡ 0 → (i : ℕ) (old new : A) → slice_get before i ≡ Some old → slice_get now i ≡ Some new → is_chosen kinds (f old).kind ≡ true → (f new).told ≡ (f old).told ++ all)
    (faultless : told.starved ≡ 0 → (i : ℕ) (old new : A) → slice_get before i ≡ Some old → slice_get now i ≡ Some new → is_chosen kinds (f old).kind ≡ true → ¬ Rose (f old).faults (f new).faults
    → (f new).told ≡ (f old).told ++ all)
    (cause : 0 < told.failed → (i : ℕ) × (old : A) × (new : A) × (slice_get before i ≡ Some old) × (slice_get now i ≡ Some new) × (is_chosen kinds (f old).kind ≡ true) × Rose (f old).faults (f new).faults) where
  told_end : HasExit exit told result → IsToldEnd exit kinds all (map f before) (map f now) result
  told_end (HasExit.starved some is) = IsToldEnd.partly is
  told_end (HasExit.failed fed some is) =
      let c = cause some in
      IsToldEnd.fault (record { at = c.0; old = f c.1; new = f c.2; old_there = map_at f before c.0 c.1 c.3; new_there = map_at f now c.0 c.2 c.4; chosen = c.5; rose = c.6 })
      (seen_each f (λ old new. is_chosen kinds old.kind ≡ true → ¬ Rose old.faults new.faults → ToldAll all old new) before now (faultless fed)) is
  told_end (HasExit.none fed well is) =
      IsToldEnd.whole (seen_each f (λ old new. is_chosen kinds old.kind ≡ true → ToldAll all old new) before now (whole well fed)) is

  pub watchers_told : length now ≡ length before → ((i : ℕ) (old new : A) → slice_get before i ≡ Some old → slice_get now i ≡ Some new → IsTold kinds all (f old) (f new))
      → HasExit exit told result → AreWatchersTold exit kinds all (map f before) (map f now) result
  watchers_told len each is = record { len = omega (arith, len, length-map before f, length-map now f); fronts = seen_each f (IsTold kinds all) before now each; ends = told_end is }

pub exit_cause : {Cause : Type 0} (exit : Exit) (told : Told) (result : Exit) → (0 < told.failed → Cause) → HasExit exit told result → IsExitBy Cause exit result
exit_cause exit told result cause (HasExit.starved some is) = IsExitBy.partly is
exit_cause exit told result cause (HasExit.failed fed some is) = IsExitBy.fault is (cause some)
exit_cause exit told result cause (HasExit.none fed well is) = IsExitBy.as_is is

-- nobody was told anything
same_seen : (x y : Seen) (o : Option Seen) → o ≡ Some x → o ≡ Some y → x ≡ y
same_seen x y o p q = cc

still_told : (kinds : List ℕ) (x : Seen) → IsTold kinds [] x x
still_told kinds x = record { sort = refl; later = omega arith; front = (0, omega arith, sym (append-nil x.told)); whole = λ chosen short. sym (append-nil x.told) }

pub untouched : (exit : Exit) (kinds : List ℕ) (all : List Seen) → AreWatchersTold exit kinds [] all all exit
untouched exit kinds all = record {
  len = refl;
  fronts = λ i old new there here. subst (λ (s : Seen). IsTold kinds [] old s) (same_seen old new _ there here) (still_told kinds old);
  ends = IsToldEnd.whole (λ i old new there here chosen. subst (λ (s : Seen). ToldAll [] old s) (same_seen old new _ there here) (sym (append-nil old.told))) refl;
}

-- the same kinds and events
pub told_by : (exit : Exit) (kinds own : List ℕ) (all events : List Event) (before now : List Seen) (result : Exit) → own ≡ kinds → events ≡ all → AreWatchersTold exit own events before now result → AreWatchersTold exit kinds all before now result
told_by exit kinds own all events before now result same_kinds same_events is =
    subst (λ (ks : List ℕ). AreWatchersTold exit ks all before now result) same_kinds (subst (λ (es : List Event). AreWatchersTold exit own es before now result) same_events is)

-- ---- the exit of the call
module _ {Cause : Type 0} (exit result : Exit) where
  -- an exit that only an answer has
  pub own_exit : (other : Exit) → (other ≡ exits.Partly → ⊥) → (other ≡ exits.WatcherFault → ⊥) → IsExitBy Cause exit result → result ≡ other → exit ≡ other
  own_exit other one two (IsExitBy.as_is is) e = sym is ∙ e
  own_exit other one two (IsExitBy.partly is) e = absurd (one (sym e ∙ is))
  own_exit other one two (IsExitBy.fault is cause) e = absurd (two (sym e ∙ is))

  pub fault_cause : (exit ≡ exits.WatcherFault → ⊥) → IsExitBy Cause exit result → result ≡ exits.WatcherFault → Cause
  fault_cause never (IsExitBy.as_is is) e = absurd (never (sym is ∙ e))
  fault_cause never (IsExitBy.partly is) e = absurd (let n : exits.WatcherFault ≡ exits.Partly = sym e ∙ is in cc)
  fault_cause never (IsExitBy.fault is cause) e = cause

  pub judged_end : (form : Form) → (Cause → ⊥) → IsExitBy Cause exit result → Judges form exit ⊎ (exit ≡ exits.Memory) → Judges form result ⊎ IsStarved result
  judged_end form calm (IsExitBy.as_is is) (inl judges) = inl (subst (λ (k : Exit). Judges form k) (sym is) judges)
  judged_end form calm (IsExitBy.as_is is) (inr none) = inr (inl (is ∙ none))
  judged_end form calm (IsExitBy.partly is) j = inr (inr is)
  judged_end form calm (IsExitBy.fault is cause) j = absurd (calm cause)

  pub never_other : (exit ≢ exits.Memory) → (exit ≡ exits.WriteFault → ⊥) → IsExitBy Cause exit result → IsUntold result → exit ≡ exits.Usage
  never_other some written ends (inl e) = own_exit exits.Usage (λ no. cc) (λ no. cc) ends e
  never_other some written ends (inr (inl e)) = absurd (written (own_exit exits.WriteFault (λ no. cc) (λ no. cc) ends e))
  never_other some written ends (inr (inr e)) = absurd (some (own_exit exits.Memory (λ no. cc) (λ no. cc) ends e))

  pub exact_end : (form : Form) (all : List (List ℕ)) (x : SubjectParts) (text : List ℕ) (before now : Option (List ℕ)) → WroteAll before now text → IsExitBy Cause exit result
      → IsUnjudged exit ⊎ IsJudgement form all x text exit → IsFailure result ⊎ IsExact form all x result before now
  exact_end form all x text before now wrote (IsExitBy.as_is is) (inl (inl e)) = inl (inl (is ∙ e))
  exact_end form all x text before now wrote (IsExitBy.as_is is) (inl (inr e)) = inl (inr (inr (inr (inl (is ∙ e)))))
  exact_end form all x text before now wrote (IsExitBy.as_is is) (inr judgement) = inr (text, subst (λ (k : Exit). IsJudgement form all x text k) (sym is) judgement, wrote)
  exact_end form all x text before now wrote (IsExitBy.partly is) j = inl (inr (inr (inr (inr is))))
  exact_end form all x text before now wrote (IsExitBy.fault is cause) j = inl (inr (inr (inl is)))

-- ---- watchers that were not chosen
pub all_same : {A : Type 0} (before now : List A) → length now ≡ length before
    → ((i : ℕ) (old new : A) → slice_get before i ≡ Some old → slice_get now i ≡ Some new → new ≡ old) → now ≡ before
all_same before now len each = same_places now before len (λ i x y here there. each i y x there here)

pub unchosen : (kinds : List ℕ) (kind : ℕ) → kinds ≡ [] → is_chosen kinds kind ≡ false
unchosen kinds kind none = ap (λ (ks : List ℕ). is_chosen ks kind) none
