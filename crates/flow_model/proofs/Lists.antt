-- Derivations as lists and as trees.
use Rattle.std.proofs.Common.{◌≡◌, true, List, [], ◌∷◌, ◌++◌, refl, inl, inr, ⊎_elim}
use Rattle.std.specs.Prelude.{◌⊎◌, ◌↔◌}
use Rattle.app_model.specs.Facts.{Fact}
use Rattle.flow_model.specs.Derived.{Set, Derived, all_done, is_given, by_rule, Among, AllAmong, IsDerivation, EndsIn}
use Rattle.flow_model.proofs.Laws.{one_more}

among_left : (f : Fact) (fs gs : List Fact) → Among f fs → Among f (fs ++ gs)
among_left f (g ∷ fs) gs a = ⊎_elim inl (λ m. inr (among_left f fs gs m)) a
among_left f [] gs a = absurd a

among_right : (f : Fact) (fs gs : List Fact) → Among f gs → Among f (fs ++ gs)
among_right f [] gs a = a
among_right f (g ∷ fs) gs a = inr (among_right f fs gs a)

all_left : (ns fs gs : List Fact) → AllAmong ns fs → AllAmong ns (fs ++ gs)
all_left [] fs gs a = tt
all_left (n ∷ ns) fs gs a = (among_left n fs gs a.0, all_left ns fs gs a.1)

all_right : (ns fs gs : List Fact) → AllAmong ns gs → AllAmong ns (fs ++ gs)
all_right [] fs gs a = tt
all_right (n ∷ ns) fs gs a = (among_right n fs gs a.0, all_right ns fs gs a.1)

module _ (rules : List Fact → Fact → Type 0) (given : Set) where
  append : (fs gs : List Fact) → IsDerivation rules given fs → IsDerivation rules given gs → IsDerivation rules given (fs ++ gs)
  append [] gs a b = b
  append (f ∷ fs) gs a b = (⊎_elim inl (λ r. inr (r.0, r.1, all_left r.0 fs gs r.2)) a.0, append fs gs a.1 b)

  -- a tree as a list
  listed : {fs : List Fact} → Derived rules given fs → (gs : List Fact) × IsDerivation rules given gs × AllAmong fs gs
  listed all_done = ([], tt, tt)
  listed (is_given {f = f} {fs = fs} h d) = let r = listed d in (f ∷ r.0, (inl h, r.1), (inl refl, all_right fs (f ∷ []) r.0 r.2))
  listed (by_rule {f = f} {needs = ns} {fs = fs} s n d) =
      let a = listed n in
      let b = listed d in
      (f ∷ (a.0 ++ b.0), (inr (ns, s, all_left ns a.0 b.0 a.2), append a.0 b.0 a.1 b.1), (inl refl, all_right fs (f ∷ a.0) b.0 b.2))

  each_derived : (gs : List Fact) → ((f : Fact) → Among f gs → Derived rules given (f ∷ [])) → (ns : List Fact) → AllAmong ns gs → Derived rules given ns
  each_derived gs from [] a = all_done
  each_derived gs from (n ∷ ns) a = one_more rules given n ns (from n a.0) (each_derived gs from ns a.1)

  head_derived : (g : Fact) (gs : List Fact) → ((f : Fact) → Among f gs → Derived rules given (f ∷ [])) → (given g ≡ true) ⊎ ((needs : List Fact) × rules needs g × AllAmong needs gs) → Derived rules given (g ∷ [])
  head_derived g gs from r = ⊎_elim (λ h. is_given h all_done) (λ x. by_rule x.1 (each_derived gs from x.0 x.2) all_done) r

  -- a list as a tree
  tree : (gs : List Fact) → IsDerivation rules given gs → (f : Fact) → Among f gs → Derived rules given (f ∷ [])
  tree [] d f a = absurd a
  tree (g ∷ gs) d f a = ⊎_elim (λ eq. rw eq (head_derived g gs (tree gs d.1) d.0)) (λ m. tree gs d.1 f m) a

  -- a part of a derivation that begins with one of its facts
  ends : (gs : List Fact) → IsDerivation rules given gs → (f : Fact) → Among f gs → EndsIn rules given f
  ends [] d f a = absurd a
  ends (g ∷ gs) d f a = ⊎_elim (λ eq. rw eq (gs, d)) (λ m. ends gs d.1 f m) a

  -- a fact is derived exactly where a derivation ends in it
  pub ends_in : (f : Fact) → Derived rules given (f ∷ []) ↔ EndsIn rules given f
  ends_in f = (λ d. (let r = listed d in ends r.0 r.1 f r.2.0), λ e. tree (f ∷ e.0) e.1 f (inl refl))
