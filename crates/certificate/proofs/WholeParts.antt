-- The part that facts give has a text.
use Rattle.std.proofs.Common.{◌≡◌, ℕ, zero, suc, ◌+◌, ◌*◌, ◌^◌, ◌<◌, Bool, true, false, cond, [], map, length, arith, lit<, refl}
use Rattle.std.specs.List.{AllByRecursion, flat_map, range_with_len}
use Rattle.std.proofs.lemmas.Bool.{ltb-true}
use Rattle.std.proofs.lemmas.List.FromFn.{length-map-range_with_len}
use Rattle.app_model.specs.Shown.{lock_text}
use Rattle.app_model.specs.Subject.{SubjectParts, IsSubject, is_reached}
use Rattle.app_model.specs.Words.{code_len}
use Rattle.app_model.specs.Facts.{Fact, At}
use Rattle.cert_line.specs.Lines.{Fits, AreBytes, is_shown, has_fact}
use Rattle.cert_line.specs.declared.rows.Line.TheVariants as lines
use Rattle.certificate.specs.Solved.{mask_of, numbers_below, view_row, has_status, component_views, masks_of, body_row, code_bodies, method_bodies, part_of}
use Rattle.certificate.specs.Texts.{IsPart, Rise, view_rank, body_rank}
use Rattle.certificate.proofs.Bits.{mask_fits}
use Rattle.certificate.proofs.Machine.{rise_lower}
use Rattle.certificate.proofs.Rising.{all_rows, all_groups, IsGroup, group_of, rise_groups, up_more}

abbrev view_start : ℕ → ℕ
view_start c = 256 * c

abbrev body_start : ℕ → ℕ
body_start m = 2 ^ 40 + 8 * m

-- ---- views
views_group : (set : Fact → Bool) (c : ℕ) → IsGroup view_rank (view_start c) (view_start (c + 1)) (component_views set c)
unfolding component_views
views_group set c =
    let g = group_of view_rank has_status (view_row set c) (view_start c) (λ q. omega arith) in
    record { rise = g.rise; up = up_more view_rank _ (view_start c + 8) (view_start (c + 1)) (omega arith) g.up; le = omega arith }

views_rise : (set : Fact → Bool) (n : ℕ) → Rise view_rank 0 (flat_map (component_views set) (numbers_below n))
views_rise set n = rise_groups view_rank (component_views set) view_start (views_group set) n 0

view_fits : (set : Fact → Bool) (c top : ℕ) → top < 2 ^ 32 → c < top → AllByRecursion (λ v. Fits (lines.View v)) (component_views set c)
unfolding component_views
view_fits set c top small lt =
    all_rows (λ v. Fits (lines.View v)) has_status (view_row set c) 8 (λ q q8 some. (omega arith, omega arith, ltb-true _ _ some, mask_fits _)) 8 0 (omega arith)

-- ---- bodies
reached_group : (x : SubjectParts) (set : Fact → Bool) (m : ℕ) (b : Bool) → IsGroup body_rank (body_start m) (body_start (m + 1)) (cond b (code_bodies set m (code_len x.app m)) [])
unfolding code_bodies
reached_group x set m true =
    let n = code_len x.app m in
    let g = group_of body_rank has_fact (body_row set m n) (body_start m) (λ e. omega arith) in
    record { rise = g.rise; up = up_more body_rank _ (body_start m + 8) (body_start (m + 1)) (omega arith) g.up; le = omega arith }
reached_group x set m false = record { rise = tt; up = tt; le = omega arith }

bodies_group : (x : SubjectParts) (set : Fact → Bool) (m : ℕ) → IsGroup body_rank (body_start m) (body_start (m + 1)) (method_bodies x set m)
unfolding method_bodies
bodies_group x set m = reached_group x set m (is_reached x m)

bodies_rise : (x : SubjectParts) (set : Fact → Bool) (n : ℕ) → Rise body_rank 0 (flat_map (method_bodies x set) (numbers_below n))
bodies_rise x set n =
    rise_lower body_rank 0 (body_start 0) (flat_map (method_bodies x set) (numbers_below n)) (omega arith) (rise_groups body_rank (method_bodies x set) body_start (bodies_group x set) n 0)

masks_fit : (set : Fact → Bool) (m e n from : ℕ) → AreBytes (map (λ i. mask_of (λ s. set (At m e i s))) (range_with_len from n))
masks_fit set m e zero from = tt
masks_fit set m e (suc n) from = (mask_fits _, masks_fit set m e n (from + 1))

code_fits : (set : Fact → Bool) (m n top : ℕ) → top < 2 ^ 32 → m < top → 0 < n → AllByRecursion (λ b. Fits (lines.Body b)) (code_bodies set m n)
unfolding code_bodies
code_fits set m n top small lt some =
    let len : (e : ℕ) → 0 < length (masks_of set m n e) = λ e. omega (arith, length-map-range_with_len (λ i. mask_of (λ s. set (At m e i s))) 0 n) in
    all_rows (λ b. Fits (lines.Body b)) has_fact (body_row set m n) 8 (λ e e8 fact. (omega arith, omega arith, mask_fits _, mask_fits _, masks_fit set m e n 0, len e, fact)) 8 0 (omega arith)

reached_fits : (x : SubjectParts) (set : Fact → Bool) (m top : ℕ) (b : Bool) → top < 2 ^ 32 → m < top → (b ≡ true → 0 < code_len x.app m) → AllByRecursion (λ b. Fits (lines.Body b)) (cond b (code_bodies set m (code_len x.app m)) [])
reached_fits x set m top true small lt some = code_fits set m (code_len x.app m) top small lt (some refl)
reached_fits x set m top false small lt some = tt

body_fits : (x : SubjectParts) (set : Fact → Bool) (m : ℕ) → IsSubject x → m < length x.app.methods → AllByRecursion (λ b. Fits (lines.Body b)) (method_bodies x set m)
unfolding method_bodies
body_fits x set m is lt = reached_fits x set m (length x.app.methods) (is_reached x m) is.sound.sizes.methods lt (is.reaches.begins m)

pub part_fits : (x : SubjectParts) (l : ℕ) (set : Fact → Bool) → IsSubject x → is_shown (lock_text x.app l) ≡ true → IsPart (part_of x l set)
part_fits x l set is shown =
    let few : length x.list < 2 ^ 32 = omega (arith, is.list.limit) in
    record {
      named = (lit< tt, shown);
      views = all_groups (λ v. Fits (lines.View v)) (component_views set) (length x.list) (λ c lt. view_fits set c (length x.list) few lt) (length x.list) 0 (omega arith);
      bodies = all_groups (λ b. Fits (lines.Body b)) (method_bodies x set) (length x.app.methods) (λ m lt. body_fits x set m is lt) (length x.app.methods) 0 (omega arith);
      views_rise = views_rise set (length x.list);
      bodies_rise = bodies_rise x set (length x.app.methods);
    }
