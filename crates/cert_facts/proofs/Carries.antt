-- Where edges carry, as masks.
use Rattle.std.proofs.Common.{◌≡◌, ◌<◌, ◌+◌, ◌*◌, ℕ, true, false, List, [], ◌∷◌, Some, None, length, refl, sym, ap, ◌∙◌, subst, ⊎_elim, arith}
use Rattle.std.specs.Prelude.{slice_get, slice_set, slice_index, option_map}
use Rattle.std.proofs.lemmas.Bool.{false≢true, cases_eq}
use Rattle.std.proofs.lemmas.Option.{slice_get_within}
use Rattle.ns_base.specs.declared.rows.MethodNo.{MethodNo}
use Rattle.app_model.specs.declared.component.Edge.{Edge}
use Rattle.app_model.specs.Components.{ComponentParts, edge_at, edge_of, callback_at}
use Rattle.app_model.specs.Facts.{View, Ret}
use Rattle.app_model.specs.Masks.{in_mask}
use Rattle.flow_model.specs.Derived.{HasAll}
use Rattle.flow_model.specs.Rules.{Carries, outside, by_method, entered}
use Rattle.solution.specs.Words.{IsMask}
use Rattle.solution.proofs.Bits.{mask_empty}
use Rattle.cert_facts.specs.Cases.{Case, set_of}
use Rattle.app_model.specs.Subject.{SubjectParts}
use Rattle.cert_facts.specs.Moves.{AreMoves, Carried, Moves, MovesBy}
use Rattle.std.proofs.lemmas.List.{length-set, get_or-set_same, get_or-set_other}

module _ (t : Case) (c : ℕ) (edge : Edge) where
  by_clearing : (s u : ℕ) {needs : List _} → Carries t.subject t.lock c edge s u needs → callback_at t.subject.list c edge.callback ≡ None → u ≡ entered t.subject t.lock c edge s
  by_clearing s u (outside absent eq) none = eq
  by_clearing s u (by_method m is) none = absurd (cc)

  by_return : (m s u : ℕ) {needs : List _} → Carries t.subject t.lock c edge s u needs → callback_at t.subject.list c edge.callback ≡ Some m → HasAll (set_of t) needs → set_of t (Ret m (entered t.subject t.lock c edge s) u) ≡ true
  by_return m s u (outside absent eq) is held = absurd (cc)
  by_return m s u (by_method n there) is held = let eq : m ≡ n = cc in rw eq held.0

  pub carried_outside : (s e mask : ℕ) → callback_at t.subject.list c edge.callback ≡ None → e ≡ entered t.subject t.lock c edge s → IsMask (λ u. u ≡ e) mask → IsMask (Carried t c edge s) mask
  carried_outside s e mask none is one = record {
    there = λ u z. one.there u (by_clearing s u z.1 none ∙ sym is);
    only = λ u h. ([], outside none (one.only u h ∙ is), tt);
  }

  pub carried_method : (m s e mask : ℕ) → callback_at t.subject.list c edge.callback ≡ Some m → e ≡ entered t.subject t.lock c edge s → ((u : ℕ) → in_mask mask u ≡ set_of t (Ret m e u)) → IsMask (Carried t c edge s) mask
  carried_method m s e mask there is reads = record {
    there = λ u z. reads u ∙ ap (λ n. set_of t (Ret m n u)) is ∙ by_return m s u z.1 there z.2;
    only = λ u h. (Ret m (entered t.subject t.lock c edge s) u ∷ [], by_method m there, (ap (λ n. set_of t (Ret m n u)) (sym is) ∙ sym (reads u) ∙ h, tt));
  }

-- a component that has an edge is one of the list
pub edge_component : (list : List ComponentParts) (c e : ℕ) (edge : Edge) → edge_at list c e ≡ Some edge → c < length list
unfolding edge_at
edge_component list c e edge = go (slice_get list c) refl
  where
    go : (o : _) → slice_get list c ≡ o → edge_of o e ≡ Some edge → c < length list
    go None at is = absurd (cc)
    go (Some row) at is = slice_get_within list c row at

pub mover_within : (t : Case) (d s u : ℕ) → Moves t d s u → d < length t.subject.list
mover_within t d s u z = edge_component t.subject.list d z.0 z.1.0 z.1.1

module _ (t : Case) (c s e : ℕ) where
  pub moves_none : edge_at t.subject.list c e ≡ None → IsMask (MovesBy t c s e) 0
  moves_none none = mask_empty (MovesBy t c s e) (λ u z. (let is = z.1 in cc))

  pub moves_off : (edge : Edge) → edge_at t.subject.list c e ≡ Some edge → set_of t (View c edge.from s) ≡ false → IsMask (MovesBy t c s e) 0
  moves_off edge is off = mask_empty (MovesBy t c s e) (λ u z. (let eq : z.0 ≡ edge = (let at = z.1 in cc) in false≢true (sym off ∙ subst (λ (g : Edge). set_of t (View c g.from s) ≡ true) eq z.2)))

  pub moves_on : (edge : Edge) (mask : ℕ) → edge_at t.subject.list c e ≡ Some edge → set_of t (View c edge.from s) ≡ true → IsMask (Carried t c edge s) mask → IsMask (MovesBy t c s e) mask
  moves_on edge mask is on carried = record {
    there = λ u z. (let eq : z.0 ≡ edge = (let at = z.1 in cc) in carried.there u (subst (λ (g : Edge). Carried t c g s u) eq z.3));
    only = λ u h. (edge, is, on, carried.only u h);
  }

-- ---- what is read of a callback
pub callback_none : (x y : SubjectParts) (c k : ℕ) → x ≡ y → option_map (λ (m : MethodNo). m.0) None ≡ callback_at x.list c k → callback_at y.list c k ≡ None
callback_none x y c k same is = rw same at (sym is)

pub callback_some : (x y : SubjectParts) (c k : ℕ) (m : MethodNo) → x ≡ y → option_map (λ (m : MethodNo). m.0) (Some m) ≡ callback_at x.list c k → callback_at y.list c k ≡ Some m.0
callback_some x y c k m same is = rw same at (sym is)

-- ---- one mask more
pub moves_more : (t : Case) (n w : ℕ) (masks : List ℕ) (c s : ℕ) → n ≡ 8 * c + s → s < 8 → c < length t.subject.list → AreMoves t n masks → IsMask (Moves t c s) w → AreMoves t (n + 1) (slice_set masks n w)
moves_more t n w masks c s at low within moves mask = record {
  room = (let r = moves.room in let l = length-set masks n w in omega arith);
  each = λ d r small lt. ⊎_elim
      (λ same. (let one : d ≡ c = omega arith in let two : r ≡ s = omega arith in
      let here : slice_index (slice_set masks n w) (8 * c + s) ≡ w = ap (λ i. slice_index (slice_set masks n w) i) (sym at) ∙ get_or-set_same masks n w 0 (let room = moves.room in omega arith) in
      rw (one, two, here) mask))
      (λ ne. (let here : slice_index (slice_set masks n w) (8 * d + r) ≡ slice_index masks (8 * d + r) = get_or-set_other masks n (8 * d + r) w 0 ne in rw here (moves.each d r small (omega arith))))
      (cases_eq (8 * d + r) n);
}
