-- The first place at which a rule leads out, by loops over its numbers.
use Rattle.std.proofs.Common.{◌≡◌, ◌+◌, ◌<◌, ◌≤◌, ℕ, Bool, true, false, List, Option, Some, None, length, get_or, refl, sym, ap, ◌∙◌, ⊎_elim, arith}
use Rattle.std.specs.Prelude.{◌↔◌, ◌⊎◌, IsTrue, is_some, slice_get}
use Rattle.std.proofs.lemmas.Bool.{cases_Bool, cases_lt, cases_order, false≢true, true≢false}
use Rattle.std.proofs.lemmas.Option.{slice_get_within, get_or_from_slice_get, slice_get_read}
use Rattle.app_model.specs.declared.component.Edge.{Edge}
use Rattle.app_model.specs.Components.{edge_at}
use Rattle.app_model.specs.Subject.{is_reached}
use Rattle.app_model.specs.Words.{code_len, pc_at}
use Rattle.cert_line.specs.Parts.{BodyParts}
use Rattle.flow_model.specs.Places.{number_of}
use Rattle.cert_facts.specs.Cases.{Case, IsCase}
use Rattle.cert_check.specs.Firsts.{IsBrokenAt, IsFirstLast, IsFirstWith, IsFirst, is_inside, place_count}
use Rattle.cert_check.specs.EdgeTests.{IsOutBetween}
use Rattle.cert_facts.specs.Rows.{Rises, body_rank}
use Rattle.cert_check.specs.Tests.{IsOut}
use Rattle.cert_check.specs.declared.places.Found.{Found}
use Rattle.cert_check.specs.declared.verdict.Rule.{Rule}
use Rattle.cert_check.specs.declared.verdict.Rule.TheVariants.{V1, V2, V3, V4, V5, I1, I2, I3, C1, C2, C3}
use Rattle.cert_facts.proofs.Carries.{mover_within}
use Rattle.cert_check.proofs.Instances.{spot, broken_inside, broken_between, out_broken, between_broken}
use Rattle.cert_check.proofs.Searches.{NoneBelow}
use Rattle.cert_facts.proofs.Sought.{rank_up}
use Rattle.cert_facts.proofs.Told.{IsAt, at_ranges, view_ranges}
use Rattle.cert_check.proofs.Ways.{pcs_rise, pc_there}

-- ---- inside callbacks: the instruction of a pc
module _ (rule : Rule) (t : Case) (is : IsCase t) (inner : is_inside rule ≡ true) where
  pub record IsSpotOut (m e c : ℕ) : Type 0 where
    pub index : ℕ
    pub at : IsAt t m e index
    pub pc : pc_at t.subject.app m index ≡ Some c
    pub out : IsOut rule (spot t m e index)

  pub spot_out : (m e c : ℕ) → IsBrokenAt rule t m e c → IsSpotOut m e c
  spot_out m e c broken =
      let f = broken_inside rule t m e c inner broken in
      let at = at_ranges t m e f.0 f.2.0 is f.2.1.0 in
      let p = pc_there t.subject m is.sound at.method f.0 at.index in
      record { index = f.0; at = at; pc = p.1 ∙ ap Some (ap number_of (sym p.1) ∙ f.1); out = f.2 }

  module _ (m e n : ℕ) (none : NoneBelow (λ i. IsOut rule (spot t m e i)) n) where
    pub pc_some : (pc : ℕ) (b : Bool) → pc_at t.subject.app m n ≡ Some pc → (IsTrue b ↔ IsOut rule (spot t m e n)) → b ≡ true → IsFirstLast rule t m e (Some pc)
    pc_some pc b at test on = (
      out_broken t m e n pc at rule (test.0 on),
      (λ d lt broken. (let f = spot_out m e d broken in ⊎_elim
          (λ same. absurd (let eq : d ≡ pc = (let two = f.pc in let one : pc_at t.subject.app m f.index ≡ Some pc = rw same at in cc) in omega arith))
          (λ apart. ⊎_elim (λ below. none f.index below f.out) (λ above. (let up = pcs_rise t.subject m is.sound f.at.method n f.index pc d at f.pc above in absurd (omega arith))) apart)
          (cases_order f.index n))),
    )

    pub pc_none : code_len t.subject.app m ≤ n → IsFirstLast rule t m e None
    pc_none past = λ c broken. (let f = spot_out m e c broken in none f.index (let lt = f.at.index in omega arith) f.out)

  pub unreached_none : (m e : ℕ) → is_reached t.subject m ≡ false → IsFirstLast rule t m e None
  unreached_none m e off = λ c broken. false≢true (sym off ∙ (spot_out m e c broken).at.reached)

-- ---- between callbacks
module _ (rule : Rule) (t : Case) (outer : is_inside rule ≡ false) (a b n : ℕ) (none : NoneBelow (IsOutBetween rule t a b) n) where
  pub number_some : (r : Bool) → (IsTrue r ↔ IsOutBetween rule t a b n) → r ≡ true → IsFirstLast rule t a b (Some n)
  number_some r test on = (between_broken t a b n rule (test.0 on), (λ d lt broken. none d lt (broken_between rule t a b d outer broken)))

  pub number_none : ((c : ℕ) → IsBrokenAt rule t a b c → c < n) → IsFirstLast rule t a b None
  number_none within = λ c broken. none c (within c broken) (broken_between rule t a b c outer broken)

pub edge_low : (rule : Rule) (t : Case) (a b c n : ℕ) → (rule ≡ V2) ⊎ ((rule ≡ V3) ⊎ (rule ≡ V4)) → ((e : ℕ) (edge : Edge) → edge_at t.subject.list a e ≡ Some edge → e < n) → IsBrokenAt rule t a b c → c < n
edge_low rule t a b c n which within broken = ⊎_elim
    (λ (is : rule ≡ V2). (let z = broken_between V2 t a b c refl (rw is at broken) in within c z.0 z.1))
    (λ other. ⊎_elim
    (λ (is : rule ≡ V3). (let z = broken_between V3 t a b c refl (rw is at broken) in within c z.0 z.1))
    (λ (is : rule ≡ V4). (let z = broken_between V4 t a b c refl (rw is at broken) in within c z.0 z.1)) other) which

pub begin_low : (rule : Rule) (t : Case) (a b c : ℕ) → rule ≡ V1 → IsBrokenAt rule t a b c → c < 1
begin_low rule t a b c is broken = (let z = broken_between V1 t a b c refl (rw is at broken) in let zero = z.2 in omega arith)

pub watch_low : (rule : Rule) (t : Case) (a b c : ℕ) → rule ≡ V5 → IsBrokenAt rule t a b c → c < length t.subject.list
watch_low rule t a b c is broken = (let z = broken_between V5 t a b c refl (rw is at broken) in mover_within t c z.1.0 z.1.1.1.0 z.1.1.1.1)

-- ---- the first two numbers of a place are low
between_low : (rule : Rule) (t : Case) (a b c : ℕ) → IsCase t → IsOutBetween rule t a b c → (a < length t.subject.list) × (b < 8)
between_low V1 t a b c is z = (z.0, (let zero = z.1 in omega arith))
between_low V2 t a b c is z = view_ranges t a b z.3.0 is z.3.1.0
between_low V3 t a b c is z = view_ranges t a b z.3.0 is z.3.1.0
between_low V4 t a b c is z = view_ranges t a b z.3.0 is z.3.1.0
between_low V5 t a b c is z = view_ranges t a b z.1.0 is z.1.1.0
between_low I1 t a b c is z = absurd z
between_low I2 t a b c is z = absurd z
between_low I3 t a b c is z = absurd z
between_low C1 t a b c is z = absurd z
between_low C2 t a b c is z = absurd z
between_low C3 t a b c is z = absurd z

pub place_low : (rule : Rule) (t : Case) (a b c : ℕ) → IsCase t → IsBrokenAt rule t a b c → (a < place_count rule t) × (b < 8)
place_low rule t a b c is broken = ⊎_elim
    (λ inner. (let f = spot_out rule t is inner a b c broken in (rw inner f.at.method, f.at.status)))
    (λ outer. (let low = between_low rule t a b c is (broken_between rule t a b c outer broken) in (rw outer low.0, low.1)))
    (cases_Bool (is_inside rule))

-- ---- a number before another
module _ (rule : Rule) (t : Case) (a : ℕ) where
  abbrev pub NoneWith : (n : ℕ) → Type 0
  NoneWith n = (b c : ℕ) → b < n → IsBrokenAt rule t a b c → ⊥

  pub with_more : (n : ℕ) → NoneWith n → IsFirstLast rule t a n None → NoneWith (n + 1)
  with_more n none last = λ b c lt broken. ⊎_elim (λ below. none b c below broken) (λ from. (let same : b ≡ n = omega arith in last c (rw same at broken))) (cases_lt b n)

  pub with_some : (n c : ℕ) → NoneWith n → IsFirstLast rule t a n (Some c) → IsFirstWith rule t a (Some (record { a = a; b = n; c = c }))
  with_some n c none last = (refl, last.0, (λ b d before broken. ⊎_elim (λ lt. none b d lt broken) (λ z. ⊎_elim (λ lt. last.1 d lt (rw z.0 at broken)) (λ w. w.1) z.1) before))

  pub with_none : IsCase t → (n : ℕ) → 8 ≤ n → NoneWith n → IsFirstWith rule t a None
  with_none is n le none = λ b c broken. none b c (let low = (place_low rule t a b c is broken).1 in omega arith) broken

module _ (rule : Rule) (t : Case) where
  abbrev pub NoneFrom : (n : ℕ) → Type 0
  NoneFrom n = (a b c : ℕ) → a < n → IsBrokenAt rule t a b c → ⊥

  pub from_more : (n : ℕ) (o : Option Found) → NoneFrom n → IsFirstWith rule t n o → is_some o ≡ false → NoneFrom (n + 1)
  from_more n (Some f) none with_it off = absurd (true≢false off)
  from_more n None none with_it off = λ a b c lt broken. ⊎_elim (λ below. none a b c below broken) (λ from. (let same : a ≡ n = omega arith in with_it b c (rw same at broken))) (cases_lt a n)

  pub from_some : (n : ℕ) (o : Option Found) → NoneFrom n → IsFirstWith rule t n o → is_some o ≡ true → IsFirst rule t o
  from_some n None none with_it on = absurd (false≢true on)
  from_some n (Some f) none with_it on = (
    rw with_it.0 with_it.1,
    (λ a b c before broken. ⊎_elim
        (λ lt. none a b c (rw with_it.0 at lt) broken)
        (λ z. with_it.2 b c z.1 (let same : a ≡ n = z.0 ∙ with_it.0 in rw same at broken))
        before),
  )

  pub from_none : IsCase t → (n : ℕ) → place_count rule t ≤ n → NoneFrom n → IsFirst rule t None
  from_none is n le none = λ a b c broken. none a b c (let low = (place_low rule t a b c is broken).0 in omega arith) broken

-- ---- by the rows of methods, where they rise
pub row_at : (rows bodies : List BodyParts) (k : ℕ) (read row : BodyParts) → rows ≡ bodies → k < length rows → read ≡ get_or rows k read → row ≡ read → slice_get bodies k ≡ Some row
row_at rows bodies k read row same lt is at = rw (sym same, at) (slice_get_read rows (length rows) k read refl lt is)

abbrev pub NoneBefore : Rule → Case → (n : ℕ) → Type 0
NoneBefore rule t n = (k : ℕ) (row : BodyParts) (c : ℕ) → k < n → slice_get t.part.bodies k ≡ Some row → IsBrokenAt rule t row.method row.entry c → ⊥

module _ (rule : Rule) (t : Case) (is : IsCase t) (inner : is_inside rule ≡ true) (up : Rises body_rank t.part.bodies) where
  row_before : (n a b c : ℕ) → NoneBefore rule t n → IsBrokenAt rule t a b c → ((k : ℕ) (row : BodyParts) → slice_get t.part.bodies k ≡ Some row → row.method ≡ a → row.entry ≡ b → b < 8 → k < n) → ⊥
  row_before n a b c none broken lt =
      let f = spot_out rule t is inner a b c broken in
      let r = f.at.row in
      none r.number r.row c (lt r.number r.row r.there r.method r.entry f.at.status) r.there (rw (r.method, r.entry) broken)

  pub row_more : (n : ℕ) (row : BodyParts) → NoneBefore rule t n → slice_get t.part.bodies n ≡ Some row → IsFirstLast rule t row.method row.entry None → NoneBefore rule t (n + 1)
  row_more n row none at last = λ k other c lt there broken. ⊎_elim
      (λ below. none k other c below there broken)
      (λ from. (let same : k ≡ n = omega arith in let one : other ≡ row = (let first : slice_get t.part.bodies n ≡ Some other = rw same at there in cc) in last c (rw one at broken)))
      (cases_lt k n)

  pub row_some : (n c : ℕ) (row : BodyParts) → NoneBefore rule t n → slice_get t.part.bodies n ≡ Some row → IsFirstLast rule t row.method row.entry (Some c) → IsFirst rule t (Some (record { a = row.method; b = row.entry; c = c }))
  row_some n c row none at last = (
    last.0,
    (λ a b d before broken. (let low : row.entry < 8 = rw (get_or_from_slice_get t.part.bodies n row row at) at (is.fits.bodies n row (slice_get_within t.part.bodies n row at)).status in let earlier : ((k : ℕ) (other : BodyParts) → slice_get t.part.bodies k ≡ Some other → body_rank other < body_rank row → k < n) = (λ k other there less. ⊎_elim (λ lt. lt) (λ le. absurd (⊎_elim
        (λ above. (let step = rank_up body_rank t.part.bodies up n k row other at there above in omega arith))
        (λ same. (let eq : k ≡ n = omega arith in let one : other ≡ row = (let first : slice_get t.part.bodies n ≡ Some other = rw eq at there in cc) in let bad : body_rank row < body_rank row = rw one at less in omega arith))
        (cases_lt n k))) (cases_lt k n)) in ⊎_elim
        (λ lt. row_before n a b d none broken (λ k other there method entry small. earlier k other there (omega arith)))
        (λ z. ⊎_elim
        (λ lt. (let first = z.0 in row_before n a b d none broken (λ k other there method entry small. earlier k other there (omega arith))))
        (λ y. ⊎_elim (λ lt. last.1 d lt (rw (z.0, y.0) at broken)) (λ w. w.1) y.1)
        z.1)
        before)),
  )

  pub row_none : (n : ℕ) → length t.part.bodies ≤ n → NoneBefore rule t n → IsFirst rule t None
  row_none n past none = λ a b c broken. (let f = spot_out rule t is inner a b c broken in row_before n a b c none broken (λ k row there method entry small. (let w = slice_get_within t.part.bodies k row there in omega arith)))
