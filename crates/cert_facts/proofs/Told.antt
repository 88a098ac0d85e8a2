-- What the rows of a part tell, as facts of its set.
use Rattle.std.proofs.Common.{◌≡◌, ◌<◌, ◌≤◌, ℕ, true, false, List, length, Option, Some, None, refl, sym, ap, ◌∙◌, ⊎_elim, arith}
use Rattle.std.specs.Prelude.{◌==◌, ◌&&◌, slice_get, slice_index}
use Rattle.std.proofs.lemmas.Bool.{and_parts, cases_lt, eqb-true, false≢true}
use Rattle.std.proofs.lemmas.List.{get_or_past}
use Rattle.std.proofs.lemmas.Option.{slice_get_within, get_or_from_slice_get}
use Rattle.app_model.specs.declared.component.Kind.{Kind}
use Rattle.app_model.specs.declared.component.Kind.TheVariants.{Activity, Service, Receiver, Runnable}
use Rattle.app_model.specs.Components.{ComponentParts}
use Rattle.app_model.specs.Facts.{View, At}
use Rattle.app_model.specs.Masks.{in_mask}
use Rattle.app_model.specs.Subject.{SubjectParts, IsSubject, is_reached}
use Rattle.app_model.specs.Words.{code_len}
use Rattle.cert_line.specs.declared.rows.ViewRow.{ViewRow}
use Rattle.cert_line.specs.Parts.{BodyParts}
use Rattle.flow_model.proofs.MaskLaws.{IsIn-zero}
use Rattle.cert_facts.specs.Cases.{Case, IsCase, set_of}
use Rattle.cert_facts.specs.Rows.{HasEntry, HasState, mask_of, fact_of}
use Rattle.cert_facts.specs.Sets.{facts_of, view_has, body_has, is_of_entry, is_of_state}
use Rattle.cert_facts.specs.Shape.{FitsBody, state_count, states_of, states_at}
use Rattle.cert_facts.specs.declared.which.Which.{Which}
use Rattle.cert_facts.specs.declared.which.Which.TheVariants.{Before, Returned, Thrown}
use Rattle.cert_facts.proofs.Sought.{any_found}

pub view_told : (t : Case) (rows found : List ViewRow) (c q mask s : ℕ) → HasState rows found c q → rows ≡ t.part.views → in_mask mask s ≡ view_has found c q s → in_mask mask s ≡ set_of t (View c q s)
unfolding facts_of
view_told t rows found c q mask s has is reads = reads ∙ has.same s ∙ ap (λ (r : List ViewRow). view_has r c q s) is

pub body_told : (t : Case) (which : Which) (rows found : List BodyParts) (m e mask s : ℕ) → HasEntry rows found m e → rows ≡ t.part.bodies → in_mask mask s ≡ body_has (mask_of which) found m e s → in_mask mask s ≡ set_of t (fact_of which m e s)
unfolding facts_of
body_told t (Before i) rows found m e mask s has is reads = reads ∙ has.same (mask_of (Before i)) s ∙ ap (λ (r : List BodyParts). body_has (mask_of (Before i)) r m e s) is
body_told t Returned rows found m e mask s has is reads = reads ∙ has.same (mask_of Returned) s ∙ ap (λ (r : List BodyParts). body_has (mask_of Returned) r m e s) is
body_told t Thrown rows found m e mask s has is reads = reads ∙ has.same (mask_of Thrown) s ∙ ap (λ (r : List BodyParts). body_has (mask_of Thrown) r m e s) is

-- ---- facts are in range
method_there : (x : SubjectParts) (m : ℕ) → IsSubject x → is_reached x m ≡ true → m < length x.app.methods
unfolding is_reached
method_there x m sound reached = ⊎_elim (λ lt. rw sound.reaches.methods at lt) (λ past. absurd (false≢true (sym (get_or_past x.reached m false past) ∙ reached))) (cases_lt m (length x.reached))

-- a row that tells of a method, and what is so of it
pub record HasRow (t : Case) (m e : ℕ) : Type 0 where
  pub number : ℕ
  pub row : BodyParts
  pub there : slice_get t.part.bodies number ≡ Some row
  pub method : row.method ≡ m
  pub entry : row.entry ≡ e
  pub fits : FitsBody t.subject row

pub row_of : (t : Case) (mask : BodyParts → ℕ) (m e s : ℕ) → IsCase t → body_has mask t.part.bodies m e s ≡ true → (has : HasRow t m e) × (in_mask (mask has.row) s ≡ true)
row_of t mask m e s is h =
    let f = any_found (λ row. is_of_entry m e row && in_mask (mask row) s) t.part.bodies h in
    let both = and_parts (is_of_entry m e f.1) (in_mask (mask f.1) s) f.3 in
    let which = and_parts (f.1.method == m) (f.1.entry == e) both.0 in
    let fits = is.fits.bodies f.0 f.1 (slice_get_within t.part.bodies f.0 f.1 f.2) in (
      record {
        number = f.0;
        row = f.1;
        there = f.2;
        method = eqb-true f.1.method m which.0;
        entry = eqb-true f.1.entry e which.1;
        fits = rw (get_or_from_slice_get t.part.bodies f.0 f.1 f.1 f.2) at fits;
      },
      both.1,
    )

pub record IsAt (t : Case) (m e i : ℕ) : Type 0 where
  pub row : HasRow t m e
  pub method : m < length t.subject.app.methods
  pub reached : is_reached t.subject m ≡ true
  pub status : e < 8
  pub index : i < code_len t.subject.app m

pub at_ranges : (t : Case) (m e i s : ℕ) → IsCase t → set_of t (At m e i s) ≡ true → IsAt t m e i
unfolding facts_of
at_ranges t m e i s is h =
    let f = row_of t (mask_of (Before i)) m e s is h in
    let fits = f.0.fits in
    let reached : is_reached t.subject m ≡ true = rw f.0.method at fits.reached in
    let code : length f.0.row.masks ≡ code_len t.subject.app m = rw f.0.method at fits.code in
    record {
      row = f.0;
      method = method_there t.subject m is.sound reached;
      reached = reached;
      status = rw f.0.entry at fits.status;
      index = ⊎_elim
          (λ lt. omega (arith, lt, code))
          (λ past. absurd (let off : slice_index f.0.row.masks i ≡ 0 = get_or_past f.0.row.masks i 0 past in IsIn-zero s (rw off at f.1)))
          (cases_lt i (length f.0.row.masks));
    }

state_low : (list : List ComponentParts) (c q : ℕ) → q < states_at list c → (c < length list) × (q < 8)
unfolding states_at
state_low list c q = go (slice_get list c) refl
  where
    count_low : (kind : Kind) → state_count kind ≤ 7
    count_low Activity = omega arith
    count_low Service = omega arith
    count_low Receiver = omega arith
    count_low Runnable = omega arith

    go : (o : Option ComponentParts) → slice_get list c ≡ o → q < states_of o → (c < length list) × (q < 8)
    go None at lt = absurd (omega arith)
    go (Some row) at lt = (slice_get_within list c row at, (let low = count_low row.kind in omega arith))

pub view_ranges : (t : Case) (c q s : ℕ) → IsCase t → set_of t (View c q s) ≡ true → (c < length t.subject.list) × (q < 8)
unfolding facts_of
view_ranges t c q s is h =
    let f = any_found (λ row. is_of_state c q row && in_mask row.mask s) t.part.views h in
    let both = and_parts (is_of_state c q f.1) (in_mask f.1.mask s) f.3 in
    let which = and_parts (f.1.component == c) (f.1.state == q) both.0 in
    let component : f.1.component ≡ c = eqb-true f.1.component c which.0 in
    let state : f.1.state ≡ q = eqb-true f.1.state q which.1 in
    let fits = rw (get_or_from_slice_get t.part.views f.0 f.1 f.1 f.2) at (is.fits.views f.0 f.1 (slice_get_within t.part.views f.0 f.1 f.2)) in
    rw (component, state) at (state_low t.subject.list f.1.component f.1.state fits)
