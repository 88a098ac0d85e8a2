-- Parts of the work, one after another.
use Rattle.std.proofs.Common.{ℕ, ◌+◌, ◌≤◌, Bool, false, refl, sym, ap, ◌∙◌, subst, ⊎_elim, arith, below_more}
use Rattle.std.specs.Prelude.{◌||◌}
use Rattle.std.proofs.lemmas.Bool.{or_parts, or_cases, cases_Bool, cases_lt, false≢true}
use Rattle.tag_flow.specs.Known.{KnownParts}
use Rattle.tag_flow.specs.declared.known.Spot.{Spot}
use Rattle.tag_flow.specs.declared.passing.Step.{Step}
use Rattle.tag_flow.specs.State.{IsSource, StateParts, state_room}
use Rattle.tag_flow.specs.Turns.{Holds, IsStep, Turn}
use Rattle.tag_flow.specs.Goals.{Below}
use Rattle.tag_rows.proofs.Order.{grows_same, grows_trans, live_grown}

module _ (k : KnownParts) where
  pub turn_none : (goal : StateParts → Type 0) (s : StateParts) → goal s → Turn k goal s s false
  turn_none goal s d = record { below = λ b. b; grows = grows_same s.table; state = λ h. h; same = λ _. refl; falls = λ e. absurd (false≢true e); done = λ _. d }

  room_le : (goal : StateParts → Type 0) (a b : StateParts) (x : Bool) → Turn k goal a b x → state_room b ≤ state_room a
  room_le goal a b x t = ⊎_elim (λ yes. let l = t.falls yes in omega arith) (λ off. let e = ap state_room (t.same off) in omega arith) (cases_Bool x)

  -- the next part after the first ones
  pub turn_next : (first next both : StateParts → Type 0) (a b c : StateParts) (x y : Bool) → ((s : StateParts) → first s → next s → both s) → Turn k first a b x → Turn k next b c y → Turn k both a c (x || y)
  turn_next first next both a b c x y join t u = record {
    below = λ h. u.below (t.below h);
    grows = grows_trans _ _ _ t.grows u.grows;
    state = λ h. u.state (t.state h);
    same = λ e. (let h = or_parts x y e in u.same h.1 ∙ t.same h.0);
    falls = λ e. ⊎_elim (λ yes. (let l = t.falls yes in let m = room_le next b c y u in omega arith)) (λ yes. (let l = u.falls yes in let m = room_le first a b x t in omega arith)) (or_cases x y e);
    done = λ e. (let h = or_parts x y e in join c (subst first (sym (u.same h.1)) (t.done h.0)) (u.done h.1));
  }

  -- the same end, said in another way
  pub turn_as : (first then : StateParts → Type 0) (a b : StateParts) (x : Bool) → ((s : StateParts) → first s → then s) → Turn k first a b x → Turn k then a b x
  turn_as first then a b x why t = record { below = t.below; grows = t.grows; state = t.state; same = t.same; falls = t.falls; done = λ off. why b (t.done off) }

  -- a loop that does a part for each number
  pub turn_start : (part : ℕ → StateParts → Type 0) (s : StateParts) → Turn k (Below part 0) s s false
  turn_start part s = turn_none (Below part 0) s (λ x h. absurd (omega arith))

  pub turn_more : (part : ℕ → StateParts → Type 0) (i : ℕ) (a b c : StateParts) (x y : Bool) → Turn k (Below part i) a b x → Turn k (part i) b c y → Turn k (Below part (i + 1)) a c (x || y)
  turn_more part i a b c x y = turn_next (Below part i) (part i) (Below part (i + 1)) a b c x y (λ s f g. below_more (λ x. part x s) i f g)

  -- at the end of a loop
  pub turn_end : (part : ℕ → StateParts → Type 0) (i n : ℕ) (a b : StateParts) (x : Bool) → n ≤ i → Turn k (Below part i) a b x → Turn k (Below part n) a b x
  turn_end part i n a b x le = turn_as (Below part i) (Below part n) a b x (λ s f x lt. f x (omega arith))

  -- where no number is beyond the end
  pub turn_all : (part : ℕ → StateParts → Type 0) (i : ℕ) (a b : StateParts) (x : Bool) → ((s : StateParts) (n : ℕ) → i ≤ n → part n s) → Turn k (Below part i) a b x → Turn k (λ s. (n : ℕ) → part n s) a b x
  turn_all part i a b x beyond = turn_as (Below part i) (λ s. (n : ℕ) → part n s) a b x (λ s f n. ⊎_elim (λ lt. f n lt) (λ le. beyond s n le) (cases_lt n i))

  -- parts that promise little
  pub holds_none : (s : StateParts) → Holds k s s
  holds_none s = record { below = λ b. b; grows = grows_same s.table; state = λ h. h; room = omega arith }

  pub holds_turn : (goal : StateParts → Type 0) (a b : StateParts) (x : Bool) → Turn k goal a b x → Holds k a b
  holds_turn goal a b x t = record { below = t.below; grows = t.grows; state = t.state; room = room_le goal a b x t }

  pub holds_more : (a b c : StateParts) → Holds k a b → Holds k b c → Holds k a c
  holds_more a b c f g = record { below = λ h. g.below (f.below h); grows = grows_trans _ _ _ f.grows g.grows; state = λ h. g.state (f.state h); room = (let l = f.room in let m = g.room in omega arith) }

  -- what a part that follows needs
  pub source_kept : (goal : StateParts → Type 0) (a b : StateParts) (x : Bool) (from : Spot) → Turn k goal a b x → IsSource k a from → IsSource k b from
  source_kept goal a b x from t is = record { state = t.state is.state; spot = is.spot; live = live_grown a.table b.table from.method.0 from.index t.grows is.live }

  pub step_kept : (goal : StateParts → Type 0) (a b : StateParts) (x : Bool) (step : Step) → Turn k goal a b x → IsStep k a step → IsStep k b step
  step_kept goal a b x step t is = record { source = source_kept goal a b x step.from t is.source; to = is.to; method = is.method; leads = is.leads; kept = is.kept }
