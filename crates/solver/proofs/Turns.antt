-- Parts of a sweep, one after another.
use Rattle.std.proofs.Common.{◌≡◌, ℕ, ◌+◌, ◌*◌, ◌≤◌, ◌<◌, Bool, true, false, cond, List, [], ◌∷◌, refl, sym, ap, ◌∙◌, subst, ⊎_elim, arith, below_more}
use Rattle.std.specs.Prelude.{◌||◌}
use Rattle.std.proofs.lemmas.Bool.{or_parts, or_cases, cases_Bool, cases_lt, false≢true}
use Rattle.app_model.specs.Facts.{Fact}
use Rattle.app_model.specs.Subject.{SubjectParts}
use Rattle.flow_model.specs.Derived.{Derived, by_rule, all_done, HasAll}
use Rattle.flow_model.proofs.Laws.{one_more}
use Rattle.solution.specs.Facts.{Facts, holds, facts_room, SameSize, Joins, HasPlaces}
use Rattle.solution.specs.Words.{has}
use Rattle.solver.specs.Turns.{AllMasks, RulesBy, Turn, Sure, Keeps, Each, Every, Follows, AreFacts, HasPlace, Grown, Nothing}

-- facts of a set of derived ones are derived together
pub all_derived : (rules : List Fact → Fact → Type 0) (given set : Fact → Bool) → ((f : Fact) → set f ≡ true → Derived rules given (f ∷ [])) → (fs : List Fact) → HasAll set fs → Derived rules given fs
all_derived rules given set from [] has = all_done
all_derived rules given set from (f ∷ fs) has = one_more rules given f fs (from f has.0) (all_derived rules given set from fs has.1)

pub has_all_kept : (a b : Facts) → ((f : Fact) → holds a f ≡ true → holds b f ≡ true) → (fs : List Fact) → HasAll (holds a) fs → HasAll (holds b) fs
has_all_kept a b kept [] has = tt
has_all_kept a b kept (f ∷ fs) has = (kept f has.0, has_all_kept a b kept fs has.1)

pub size_same : (t : Facts) → SameSize t t
size_same t = record { code = λ k. refl; ends = λ k. refl }

pub size_more : (a b c : Facts) → SameSize a b → SameSize b c → SameSize a c
size_more a b c x y = record { code = λ k. y.code k ∙ x.code k; ends = λ k. y.ends k ∙ x.ends k }

-- what holds whatever the masks are
abbrev pub no_masks : AllMasks
no_masks x l = record { passes = λ m i k s. 0; throws = λ m i s. 0 }

pub places_kept : (x : SubjectParts) (a b : Facts) → SameSize a b → HasPlaces x a → HasPlaces x b
places_kept x a b size h = record {
  code = λ m. size.code m ∙ h.code m;
  rets = size.ends 0 ∙ h.rets;
  excs = size.ends 1 ∙ h.excs;
  views = size.ends 2 ∙ h.views;
}

pub facts_kept : (x : SubjectParts) (l : ℕ) (a b : Facts) → SameSize a b → AreFacts x l a → AreFacts x l b
facts_kept x l a b size h = record { sound = h.sound; lock = h.lock; places = places_kept x a b size h.places }

pub place_kept : (x : SubjectParts) (l : ℕ) (a b : Facts) (m i : ℕ) → SameSize a b → HasPlace x l a m i → HasPlace x l b m i
place_kept x l a b m i size h = record { facts = facts_kept x l a b size h.facts; place = h.place }

module _ (rules : RulesBy) where
  pub turn_none : (goal : AllMasks → Facts → Type 0) (m : AllMasks) (t : Facts) → goal m t → Turn rules goal m m t t false
  turn_none goal m t d = record { masks = refl; below = λ given b. b; kept = λ f h. h; size = size_same t; same = λ _. refl; falls = λ e. absurd (false≢true e); done = λ _. d }

  -- a word of facts, each of which follows by one rule
  pub turn_joins : (m : AllMasks) (old : Facts) (place : ℕ → ℕ → Fact) (w : ℕ) (new : Facts) (x : Bool) → Joins old place w new x
      → ((e s : ℕ) → has w e s ≡ true → Follows (rules m) old (place e s))
      → Turn rules (λ masks t. (e s : ℕ) → has w e s ≡ true → holds t (place e s) ≡ true) m m old new x
  turn_joins m old place w new x j why = record {
    masks = refl;
    below = λ given b. (let from : (f : Fact) → holds new f ≡ true → Derived (rules m) given (f ∷ []) = λ f h. ⊎_elim (b.by f) (λ z. rw z.3 (let r = why z.0 z.1 z.2 in by_rule r.by (all_derived (rules m) given (holds old) b.by r.needs r.has) all_done)) (j.only f h) in record { by = from });
    kept = j.kept;
    size = j.size;
    same = j.same;
    falls = j.falls;
    done = λ _. j.there;
  }

  pub room_le : (goal : AllMasks → Facts → Type 0) (m n : AllMasks) (a b : Facts) (x : Bool) → Turn rules goal m n a b x → facts_room b ≤ facts_room a
  room_le goal m n a b x t = ⊎_elim (λ yes. let l = t.falls yes in omega arith) (λ off. let e = ap facts_room (t.same off) in omega arith) (cases_Bool x)

  -- the next part after the first ones
  pub turn_next : (first next both : AllMasks → Facts → Type 0) (k m n : AllMasks) (a b c : Facts) (x y : Bool) → ((t : Facts) → first k t → next k t → both k t) → Turn rules first k m a b x → Turn rules next m n b c y → Turn rules both k n a c (x || y)
  turn_next first next both k m n a b c x y join t u =
      let v : Turn rules next k n b c y = subst (λ (z : AllMasks). Turn rules next z n b c y) t.masks u in
      record {
        masks = v.masks;
        below = λ given h. v.below given (t.below given h);
        kept = λ f h. v.kept f (t.kept f h);
        size = size_more a b c t.size v.size;
        same = λ e. (let h = or_parts x y e in v.same h.1 ∙ t.same h.0);
        falls = λ e. ⊎_elim (λ yes. (let l = t.falls yes in let r = room_le next k n b c y v in omega arith)) (λ yes. (let l = v.falls yes in let r = room_le first k m a b x t in omega arith)) (or_cases x y e);
        done = λ e. (let h = or_parts x y e in join c (subst (first k) (sym (v.same h.1)) (t.done h.0)) (v.done h.1));
      }

  -- the same end, said in another way
  pub turn_as : (first then : AllMasks → Facts → Type 0) (m n : AllMasks) (a b : Facts) (x : Bool) → (b ≡ a → first m b → then m b) → Turn rules first m n a b x → Turn rules then m n a b x
  turn_as first then m n a b x why t = record { masks = t.masks; below = t.below; kept = t.kept; size = t.size; same = t.same; falls = t.falls; done = λ off. why (t.same off) (t.done off) }

  -- asking changed no mask
  pub turn_masks : (goal : AllMasks → Facts → Type 0) (m n : AllMasks) (a b : Facts) (x : Bool) → n ≡ m → Turn rules goal m m a b x → Turn rules goal m n a b x
  turn_masks goal m n a b x e t = subst (λ (z : AllMasks). Turn rules goal m z a b x) (sym e) t

  -- a loop that does a part for each number
  pub turn_start : (part : ℕ → AllMasks → Facts → Type 0) (m : AllMasks) (t : Facts) → Turn rules (Each part 0) m m t t false
  turn_start part m t = turn_none (Each part 0) m t (λ k h. absurd (omega arith))

  pub turn_more : (part : ℕ → AllMasks → Facts → Type 0) (i : ℕ) (k m n : AllMasks) (a b c : Facts) (x y : Bool) → Turn rules (Each part i) k m a b x → Turn rules (part i) m n b c y → Turn rules (Each part (i + 1)) k n a c (x || y)
  turn_more part i k m n a b c x y = turn_next (Each part i) (part i) (Each part (i + 1)) k m n a b c x y (λ t f g. below_more (λ j. part j k t) i f g)

  -- at the end of a loop
  pub turn_end : (part : ℕ → AllMasks → Facts → Type 0) (i count : ℕ) (m n : AllMasks) (a b : Facts) (x : Bool) → count ≤ i → Turn rules (Each part i) m n a b x → Turn rules (Each part count) m n a b x
  turn_end part i count m n a b x le = turn_as (Each part i) (Each part count) m n a b x (λ same f k lt. f k (omega arith))

  -- a loop that ends where no number is left
  pub turn_every : (part : ℕ → AllMasks → Facts → Type 0) (i : ℕ) (m n : AllMasks) (a b : Facts) (x : Bool) → ((k : ℕ) → i ≤ k → (g : AllMasks) (t : Facts) → part k g t) → Turn rules (Each part i) m n a b x → Turn rules (Every part) m n a b x
  turn_every part i m n a b x past = turn_as (Each part i) (Every part) m n a b x (λ same f k. ⊎_elim (f k) (λ le. past k le m b) (cases_lt k i))

  -- ---- parts whose work lasts
  pub turn_sure : (goal : AllMasks → Facts → Type 0) (m n : AllMasks) (a b : Facts) (x : Bool) → Sure rules goal m n a b x → Turn rules goal m n a b x
  turn_sure goal m n a b x s = turn_as Nothing goal m n a b x (λ same u. s.done b (λ f h. h)) s.turn

  pub sure_none : (goal : AllMasks → Facts → Type 0) (m : AllMasks) (t : Facts) → ((u : Facts) → Grown t u → goal m u) → Sure rules goal m m t t false
  sure_none goal m t d = record { turn = turn_none Nothing m t tt; done = d }

  pub sure_joins : (m : AllMasks) (old : Facts) (place : ℕ → ℕ → Fact) (w : ℕ) (new : Facts) (x : Bool) → Joins old place w new x
      → ((e s : ℕ) → has w e s ≡ true → Follows (rules m) old (place e s))
      → Sure rules (λ masks t. (e s : ℕ) → has w e s ≡ true → holds t (place e s) ≡ true) m m old new x
  sure_joins m old place w new x j why = record { turn = turn_as _ Nothing m m old new x (λ same d. tt) (turn_joins m old place w new x j why); done = λ t more e s h. more _ (j.there e s h) }

  pub sure_next : (first next both : AllMasks → Facts → Type 0) (k m n : AllMasks) (a b c : Facts) (x y : Bool) → ((t : Facts) → first k t → next k t → both k t) → Sure rules first k m a b x → Sure rules next m n b c y → Sure rules both k n a c (x || y)
  sure_next first next both k m n a b c x y join s u =
      let v : Sure rules next k n b c y = subst (λ (z : AllMasks). Sure rules next z n b c y) s.turn.masks u in
      record {
        turn = turn_next Nothing Nothing Nothing k m n a b c x y (λ t f g. tt) s.turn u.turn;
        done = λ t more. join t (s.done t (λ f h. more f (v.turn.kept f h))) (v.done t more);
      }

  pub sure_as : (first then : AllMasks → Facts → Type 0) (m n : AllMasks) (a b : Facts) (x : Bool) → ((t : Facts) → first m t → then m t) → Sure rules first m n a b x → Sure rules then m n a b x
  sure_as first then m n a b x why s = record { turn = s.turn; done = λ t more. why t (s.done t more) }

  pub sure_masks : (goal : AllMasks → Facts → Type 0) (m n : AllMasks) (a b : Facts) (x : Bool) → n ≡ m → Sure rules goal m m a b x → Sure rules goal m n a b x
  sure_masks goal m n a b x e s = subst (λ (z : AllMasks). Sure rules goal m z a b x) (sym e) s

  pub sure_start : (part : ℕ → AllMasks → Facts → Type 0) (m : AllMasks) (t : Facts) → Sure rules (Each part 0) m m t t false
  sure_start part m t = sure_none (Each part 0) m t (λ u more k h. absurd (omega arith))

  pub sure_more : (part : ℕ → AllMasks → Facts → Type 0) (i : ℕ) (k m n : AllMasks) (a b c : Facts) (x y : Bool) → Sure rules (Each part i) k m a b x → Sure rules (part i) m n b c y → Sure rules (Each part (i + 1)) k n a c (x || y)
  sure_more part i k m n a b c x y = sure_next (Each part i) (part i) (Each part (i + 1)) k m n a b c x y (λ t f g. below_more (λ j. part j k t) i f g)

  -- a loop that ends where no number is left
  pub sure_every : (part : ℕ → AllMasks → Facts → Type 0) (i : ℕ) (m n : AllMasks) (a b : Facts) (x : Bool) → ((k : ℕ) → i ≤ k → (g : AllMasks) (t : Facts) → part k g t) → Sure rules (Each part i) m n a b x → Sure rules (Every part) m n a b x
  sure_every part i m n a b x past = sure_as (Each part i) (Every part) m n a b x (λ t f k. ⊎_elim (f k) (λ le. past k le m t) (cases_lt k i))

  -- a round falls, or it is the last one
  pub round_falls : (goal : AllMasks → Facts → Type 0) (m n : AllMasks) (a b c : Facts) (changed : Bool) → facts_room b ≤ facts_room a → Turn rules goal m n b c changed → 2 * facts_room c + cond changed 1 0 < 2 * facts_room a + 1
  round_falls goal m n a b c true le t = let r = t.falls refl in omega arith
  round_falls goal m n a b c false le t = let e = ap facts_room (t.same refl) in omega arith

  -- parts that promise little
  pub keeps_none : (m : AllMasks) (t : Facts) → Keeps rules m m t t
  keeps_none m t = record { masks = refl; below = λ given b. b; kept = λ f h. h; size = size_same t; room = omega arith }

  pub keeps_turn : (goal : AllMasks → Facts → Type 0) (m n : AllMasks) (a b : Facts) (x : Bool) → Turn rules goal m n a b x → Keeps rules m n a b
  keeps_turn goal m n a b x t = record { masks = t.masks; below = t.below; kept = t.kept; size = t.size; room = room_le goal m n a b x t }

  pub keeps_more : (k m n : AllMasks) (a b c : Facts) → Keeps rules k m a b → Keeps rules m n b c → Keeps rules k n a c
  keeps_more k m n a b c t u =
      let v : Keeps rules k n b c = subst (λ (z : AllMasks). Keeps rules z n b c) t.masks u in
      record { masks = v.masks; below = λ given h. v.below given (t.below given h); kept = λ f h. v.kept f (t.kept f h); size = size_more a b c t.size v.size; room = (let p = t.room in let q = v.room in omega arith) }
