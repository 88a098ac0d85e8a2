-- Frames that wait for a callee: what runs above them leaves them as their tags say.
use Rattle.std.proofs.Common.{◌≡◌, ℕ, ◌<◌, ◌≤◌, Bool, true, false, if◌then◌else◌, List, [], ◌∷◌, length, get_or, refl, sym, ap, ◌∙◌, arith, subst}
use Rattle.std.specs.Prelude.{◌↔◌}
use Rattle.std.proofs.lemmas.Bool.{false≢true}
use Rattle.std.proofs.lemmas.List.{get_or-map, length-map}
use Rattle.ns_base.specs.declared.rows.LockNo.{LockNo}
use Rattle.app_model.specs.declared.tag.Tag.{Tag}
use Rattle.app_model.specs.declared.tag.Tag.TheVariants as tag
use Rattle.app_model.specs.Reach.{Assigns}
use Rattle.app_model.specs.Subject.{SubjectParts, row_at}
use Rattle.act_model.specs.Changes.{called, called_change, tag_in}
use Rattle.flow_model.specs.Derived.{Set}
use Rattle.flow_model.specs.TagFlow.{IsLive}
use Rattle.flow_model.proofs.TestLaws.{bool_same}
use Rattle.run_model.specs.Heaps.{Value, Zero, Heap, cell, cell_value, is_lock}
use Rattle.run_model.specs.Frames.{Frame}
use Rattle.run_model.specs.Relation.{AreTagged, Below, IsWaiting, Means}
use Rattle.run_model.proofs.Meanings.{KeepsLoose, held_no_lock, new_kept}
use Rattle.run_model.proofs.Stores.{callee_store}

-- what a frame of method m that was entered when there were `lo` locks leaves as it was: the locks before them that no
-- field owns, and the fields to which the reach of m does not store
pub record Spares (x : SubjectParts) (m lo : ℕ) (h h' : Heap) : Type 0 where
  pub more : length h.locks ≤ length h'.locks
  pub loose : KeepsLoose 0 lo h h'
  pub cells : (l : ℕ) → ¬ Assigns x.app x.graph m l → cell h' l ≡ cell h l

pub spares_all : (x : SubjectParts) (m lo : ℕ) (h : Heap) → Spares x m lo h h
spares_all x m lo h = record { more = omega arith; loose = λ i from below loose. refl; cells = λ l off. refl }

-- ---- tags after a call
-- they say less than those before it
pub called_meant : (gone : ℕ → Bool) (v : Value) (lo hi : ℕ) (h : Heap) (t : Tag) → Means t v lo hi h → Means (called_change gone t) v lo hi h
called_meant gone v lo hi h tag.Bot ok = ok
called_meant gone v lo hi h tag.Zero ok = ok
called_meant gone v lo hi h tag.Solid ok = ok
called_meant gone v lo hi h (tag.Held l) ok = ap is_lock ok ∙ held_no_lock h (cell h l.0)
called_meant gone v lo hi h tag.Any ok = ok
called_meant gone v lo hi h (tag.Field l) ok = by (gone l.0)
  where
    by : (b : Bool) → Means (if b then tag.Mixed else tag.Field l) v lo hi h
    by true = tt
    by false = ok
called_meant gone v lo hi h (tag.New z) ok = ok
called_meant gone v lo hi h tag.Mixed ok = ok

-- and hold of another heap, where the fields that are not gone are as they were
module _ (gone : ℕ → Bool) (lo hi hi' : ℕ) (h h' : Heap) (more : hi ≤ hi') (loose : KeepsLoose lo hi h h') (cells : (l : ℕ) → gone l ≡ false → cell h' l ≡ cell h l) where
  field_stays : (v : Value) (b : Bool) (l : LockNo) → gone l.0 ≡ b → Means (if b then tag.Mixed else tag.Field l) v lo hi h → Means (if b then tag.Mixed else tag.Field l) v lo hi' h'
  field_stays v true l is ok = tt
  field_stays v false l is ok = ok ∙ ap cell_value (sym (cells l.0 is))

  called_stays : (v : Value) (t : Tag) → Means (called_change gone t) v lo hi h → Means (called_change gone t) v lo hi' h'
  called_stays v tag.Bot ok = ok
  called_stays v tag.Zero ok = ok
  called_stays v tag.Solid ok = ok
  called_stays v (tag.Held l) ok = ok
  called_stays v tag.Any ok = ok
  called_stays v (tag.Field l) ok = field_stays v (gone l.0) l refl ok
  called_stays v (tag.New z) ok = new_kept z v lo hi hi' h h' more loose ok
  called_stays v tag.Mixed ok = ok

  pub row_stays : (row : List Tag) (values : List Value) → AreTagged (called gone row) values lo hi h → AreTagged (called gone row) values lo hi' h'
  row_stays row values ok = record {
    count = ok.count;
    each = λ r below.
        let here : r < length row = omega (arith, below, length-map row (called_change gone)) in
        let is : tag_in (called gone row) r ≡ called_change gone (tag_in row r) = get_or-map (called_change gone) row r tag.Bot tag.Bot here in
        subst (λ (t : Tag). Means t (get_or values r Zero) lo hi' h') (sym is)
        (called_stays (get_or values r Zero) (tag_in row r) (subst (λ (t : Tag). Means t (get_or values r Zero) lo hi h) is (ok.each r below)));
  }

-- two tests that tell the same fields
module _ (gone gone' : ℕ → Bool) (same : (l : ℕ) → gone l ≡ gone' l) where
  change_same : (t : Tag) → called_change gone t ≡ called_change gone' t
  change_same tag.Bot = refl
  change_same tag.Zero = refl
  change_same tag.Solid = refl
  change_same (tag.Held l) = refl
  change_same tag.Any = refl
  change_same (tag.Field l) = ap (λ (b : Bool). if b then tag.Mixed else tag.Field l) (same l.0)
  change_same (tag.New z) = refl
  change_same tag.Mixed = refl

  called_same : (row : List Tag) → called gone row ≡ called gone' row
  called_same [] = refl
  called_same (t ∷ row) = rw (change_same t, called_same row) refl

tells_same : (P : ℕ → Type 0) (gone gone' : ℕ → Bool) → ((l : ℕ) → (gone l ≡ true) ↔ P l) → ((l : ℕ) → (gone' l ≡ true) ↔ P l) → (l : ℕ) → gone l ≡ gone' l
tells_same P gone gone' a b l = bool_same (gone l) (gone' l) (λ is. (b l).1 ((a l).0 is)) (λ is. (a l).1 ((b l).0 is))

-- a row that some values have is live
pub called_live : (gone : ℕ → Bool) (row : List Tag) (values : List Value) (lo hi : ℕ) (h : Heap) → AreTagged (called gone row) values lo hi h → 0 < length row → IsLive row
called_live gone row values lo hi h ok wide = record {
  register = 0;
  is = λ bot.
      let below : 0 < length (called gone row) = omega (arith, wide, length-map row (called_change gone)) in
      let is : tag_in (called gone row) 0 ≡ called_change gone (tag_in row 0) = get_or-map (called_change gone) row 0 tag.Bot tag.Bot wide in
      subst (λ (t : Tag). Means t (get_or values 0 Zero) lo hi h) (is ∙ ap (called_change gone) bot) (ok.each 0 below);
}

-- ---- waiting frames
module _ (x : SubjectParts) (own : ℕ) (set : Set) (h h' : Heap) where
  waiting_kept : (f : Frame) (n es hi e lo : ℕ) → Spares x n hi h h' → IsWaiting x own set h f n es hi e lo → IsWaiting x own set h' f n es hi e lo
  waiting_kept f n es hi e lo s w = record {
    from = w.from;
    reached = w.reached;
    at = w.at;
    callee = w.callee;
    opened = w.opened;
    gone = w.gone;
    assigns = w.assigns;
    registers =
        row_stays w.gone lo hi hi h h' (omega arith) (λ i from below loose. s.loose i (omega arith) below loose) (λ l off. s.cells l (λ stored. false≢true (sym off ∙ (w.assigns l).1 stored)))
        (row_at x f.method f.index) f.registers w.registers;
  }

  spares_caller : (f : Frame) (n es hi e lo : ℕ) → Spares x n hi h h' → IsWaiting x own set h f n es hi e lo → Spares x f.method lo h h'
  spares_caller f n es hi e lo s w = record {
    more = s.more;
    loose = λ i from below loose. s.loose i from (omega (arith, below, w.from)) loose;
    cells = λ l off. s.cells l (λ stored. off (callee_store x.app x.graph f.method f.index n l w.callee stored));
  }

  pub below_kept : (root s0 : ℕ) (frames : List Frame) (n es hi : ℕ) → Spares x n hi h h' → Below x own set root s0 h frames n es hi → Below x own set root s0 h' frames n es hi
  below_kept root s0 [] n es hi s b = b
  below_kept root s0 (f ∷ rest) n es hi s b =
      (b.0, b.1, waiting_kept f n es hi b.0 b.1 s b.2, below_kept root s0 rest f.method b.0 b.1 (spares_caller f n es hi b.0 b.1 s b.2) b.3)

-- the registers of a waiting frame when its callee is gone, by any test of what the reach of that one stores to
pub resumed : (x : SubjectParts) (own : ℕ) (set : Set) (h : Heap) (f : Frame) (n es hi e lo : ℕ) (gone : ℕ → Bool) → ((l : ℕ) → (gone l ≡ true) ↔ Assigns x.app x.graph n l) → hi ≤ length h.locks → IsWaiting x own set h f n es hi e lo
    → AreTagged (called gone (row_at x f.method f.index)) f.registers lo (length h.locks) h
resumed x own set h f n es hi e lo gone assigns more w =
    let row = row_at x f.method f.index in
    let same = called_same w.gone gone (tells_same (Assigns x.app x.graph n) w.gone gone w.assigns assigns) row in
    subst (λ (tags : List Tag). AreTagged tags f.registers lo (length h.locks) h) same
    (row_stays w.gone lo hi (length h.locks) h h more (λ i from below loose. refl) (λ l off. refl) row f.registers w.registers)
