-- What is read from a line is spelled so, and what is spelled so is read.
use Rattle.std.proofs.Common.{◌≡◌, ℕ, ◌<◌, ◌≤◌, false, cond, ◌⊎◌, List, [], ◌∷◌, ◌++◌, length, map, Option, Some, None, refl, sym, ap, subst, ◌∙◌, append_assoc, arith, lit≤, inl, inr}
use Rattle.std.specs.Prelude.{codes, decimal, bytes_eq, option_map, ◌==◌}
use Rattle.std.specs.List.{AllByRecursion, join_with_byte}
use Rattle.std.proofs.lemmas.Option.{some_pair_parts}
use Rattle.std.proofs.lemmas.List.Splits.{slice_split_at, join_with_byte-slice_split, length-slice_split}
use Rattle.std.proofs.lemmas.List.Elements.{recursion_from_All}
use Rattle.std.proofs.lemmas.Slice.Eq.{bytes_eq-Decides}
use Rattle.cert_line.specs.Fields.{status_name}
use Rattle.cert_line.specs.Reading.{◌>>=◌, below_in, pieces, status_in}
use Rattle.cert_line.proofs.Choices.{bind_some, chosen}
use Rattle.cert_line.proofs.Numbers.{below_takes, below_again}
use Rattle.cert_line.proofs.Statuses.{status_takes, status_again}
use Rattle.cert_line.proofs.Spaces.{Above, Above-append, free, split_join}
use Rattle.path_reader.specs.Parts.{BodyNo}
use Rattle.path_reader.specs.Reading.{body_in, body_of, colon_in, dash_in, end_in, front_in, front_of, head_in, head_of, last_in, last_of, line_at, line_in, other_in, outside_in, own_in, row_in, start_in, steps_in, view_in, view_of, way_in}
use Rattle.path_reader.specs.Texts.{FitsBody, FitsBy, FitsMaybe, FitsRow, FitsStep, FitsView, NoFeed, head_text}
use Rattle.path_reader.specs.declared.lines.Front.{Front}
use Rattle.path_reader.specs.declared.lines.Head.{Head}
use Rattle.path_reader.specs.declared.lines.Last.{Last}
use Rattle.path_reader.specs.declared.lines.NumberedView.{NumberedView}
use Rattle.path_reader.specs.declared.lines.Line.{Line}
use Rattle.path_reader.specs.declared.lines.Line.TheVariants as lines
use Rattle.path_reader.proofs.FieldForms.{colon_again, colon_takes, dash_above, dash_again, dash_field, dash_takes, end_above, end_again, end_name, end_takes, item, items_above, lower, map_some, row_above, row_again, row_takes, status_above, steps_again, steps_take}
use Rattle.report_path.specs.declared.report.By.{By}
use Rattle.report_path.specs.declared.report.By.TheVariants.{Start, Outside, Own, Other}
use Rattle.report_path.specs.declared.report.Step.{Step}

-- ---- the fields of lines

abbrev pub body_fields : BodyNo → List (List ℕ)
body_fields b =
    decimal b.number ∷ decimal b.body.method ∷ status_name b.body.entry ∷ end_name b.body.thrown ∷ status_name b.body.exit ∷ map item b.body.steps

abbrev pub way_fields : By → List (List ℕ)
way_fields Start = codes "start" ∷ []
way_fields (Outside v e) = codes "outside" ∷ decimal v ∷ decimal e ∷ []
way_fields (Own v e b) = codes "own" ∷ decimal v ∷ decimal e ∷ decimal b ∷ []
way_fields (Other v w e b) = codes "other" ∷ decimal v ∷ decimal w ∷ decimal e ∷ dash_field b ∷ []

abbrev pub view_fields : NumberedView → List (List ℕ)
view_fields v = decimal v.number ∷ decimal v.view.component ∷ decimal v.view.state ∷ status_name v.view.status ∷ way_fields v.view.by

abbrev pub last_fields : Last → List (List ℕ)
last_fields l = decimal l.component ∷ decimal l.edge ∷ status_name l.status ∷ decimal l.view ∷ dash_field l.body ∷ decimal l.lock ∷ []

-- of a head with its rest in pieces
abbrev pub head_fields : Head → List (List ℕ) → List (List ℕ)
head_fields h rest = decimal h.number ∷ codes "of" ∷ (decimal h.total ++ 58 ∷ []) ∷ rest

abbrev pub fields_of : Line → List (List ℕ) → List (List ℕ)
fields_of (lines.Body b) rest = codes "body" ∷ body_fields b
fields_of (lines.View v) rest = codes "view" ∷ view_fields v
fields_of (lines.Exit l) rest = codes "exit" ∷ last_fields l
fields_of (lines.Head h) rest = codes "report" ∷ head_fields h rest

pub record FitsLast (l : Last) : Type 0 where
  pub components : FitsRow l.component
  pub edges : FitsRow l.edge
  pub statuses : l.status < 8
  pub last_view : FitsRow l.view
  pub last_body : FitsMaybe l.body
  pub locks : FitsRow l.lock

abbrev pub FitsLine : Line → Type 0
FitsLine (lines.Body b) = FitsRow b.number × FitsBody b.body
FitsLine (lines.View v) = FitsRow v.number × FitsView v.view
FitsLine (lines.Exit l) = FitsLast l
FitsLine (lines.Head h) = FitsRow h.number × FitsRow h.total

abbrev pub Spells : List (List ℕ) → Line → Type 0
Spells fs l = (x : List ℕ) × (more : List (List ℕ)) × (fs ≡ fields_of l (x ∷ more)) × FitsLine l

-- ---- a body

front_of_takes : (n m s e x : List ℕ) (more : List (List ℕ)) (f : Front) (steps : List Step) → front_of n m s e x ≡ Some f → more ≡ map item steps → AllByRecursion FitsStep steps → (n ∷ m ∷ s ∷ e ∷ x ∷ more ≡ body_fields (body_of f steps)) × FitsRow f.number × FitsBody (body_of f steps).body
unfolding front_of
front_of_takes n m s e x more f steps given items fits =
    let a = bind_some (row_in n) (λ number. row_in m >>= λ method. status_in s >>= λ entry. end_in e >>= λ thrown. status_in x >>= λ exit. Some (record { number = number; method = method; entry = entry; thrown = thrown; exit = exit })) f given in
    let b = bind_some (row_in m) (λ method. status_in s >>= λ entry. end_in e >>= λ thrown. status_in x >>= λ exit. Some (record { number = a.0; method = method; entry = entry; thrown = thrown; exit = exit })) f a.2 in
    let c = bind_some (status_in s) (λ entry. end_in e >>= λ thrown. status_in x >>= λ exit. Some (record { number = a.0; method = b.0; entry = entry; thrown = thrown; exit = exit })) f b.2 in
    let d = bind_some (end_in e) (λ thrown. status_in x >>= λ exit. Some (record { number = a.0; method = b.0; entry = c.0; thrown = thrown; exit = exit })) f c.2 in
    let g = bind_some (status_in x) (λ exit. Some (record { number = a.0; method = b.0; entry = c.0; thrown = d.0; exit = exit })) f d.2 in
    let made : Front = record { number = a.0; method = b.0; entry = c.0; thrown = d.0; exit = g.0 } in
    let is : made ≡ f = let h = g.2 in cc in
    let p0 = row_takes n a.0 a.1 in
    let p1 = row_takes m b.0 b.1 in
    let p2 = status_takes s c.0 c.1 in
    let p3 = end_takes e d.0 d.1 in
    let p4 = status_takes x g.0 g.1 in
    let same : n ∷ m ∷ s ∷ e ∷ x ∷ more ≡ body_fields (body_of made steps) = rw (← p0.0, ← p1.0, p2.0, ← p3, p4.0, ← items) refl in
    subst (λ (f : Front). (n ∷ m ∷ s ∷ e ∷ x ∷ more ≡ body_fields (body_of f steps)) × FitsRow f.number × FitsBody (body_of f steps).body) is
    (same, p0.1, record { methods = p1.1; entries = p2.1; exits = p4.1; each_step = fits })

abbrev BodyTaken : List (List ℕ) → BodyNo → Type 0
BodyTaken fs b = (fs ≡ body_fields b) × FitsRow b.number × FitsBody b.body

front_takes : (fs : List (List ℕ)) (f : Front × List (List ℕ)) (steps : List Step) → front_in fs ≡ Some f → f.1 ≡ map item steps → AllByRecursion FitsStep steps → BodyTaken fs (body_of f.0 steps)
unfolding front_in
front_takes [] f steps e items fits = absurd cc
front_takes (n ∷ []) f steps e items fits = absurd cc
front_takes (n ∷ m ∷ []) f steps e items fits = absurd cc
front_takes (n ∷ m ∷ s ∷ []) f steps e items fits = absurd cc
front_takes (n ∷ m ∷ s ∷ t ∷ []) f steps e items fits = absurd cc
front_takes (n ∷ m ∷ s ∷ t ∷ x ∷ more) f steps e items fits =
    let with_rest : Front → Option (Front × List (List ℕ)) = λ f. Some (f, more) in
    let g = bind_some (front_of n m s t x) with_rest f e in
    let parts = some_pair_parts g.0 f.0 more f.1 g.2 in
    front_of_takes n m s t x more f.0 steps (g.1 ∙ ap (λ (f : Front). Some f) parts.0) (parts.1 ∙ items) fits

body_takes : (fs : List (List ℕ)) (b : BodyNo) → body_in fs ≡ Some b → BodyTaken fs b
unfolding body_in
body_takes fs b e =
    let a = bind_some (front_in fs) (λ f. steps_in f.1 >>= λ steps. Some (body_of f.0 steps)) b e in
    let st = bind_some (steps_in a.0.1) (λ steps. Some (body_of a.0.0 steps)) b a.2 in
    let t = steps_take a.0.1 st.0 st.1 in
    let is : body_of a.0.0 st.0 ≡ b = let h = st.2 in cc in
    subst (λ (b : BodyNo). BodyTaken fs b) is (front_takes fs a.0 st.0 a.1 t.0 t.1)

body_again : (b : BodyNo) → FitsRow b.number → FitsBody b.body → body_in (body_fields b) ≡ Some b
unfolding body_in front_in front_of
body_again b small fits =
    rw (row_again b.number small, row_again b.body.method fits.methods, status_again b.body.entry fits.entries, end_again b.body.thrown, status_again b.body.exit fits.exits, steps_again b.body.steps fits.each_step) refl

-- ---- a view

word_is : {A : Type 0} (word text : List ℕ) (o rest : Option A) (y : A) → cond (bytes_eq word text) o rest ≡ Some y → ((word ≡ text) × (o ≡ Some y)) ⊎ (rest ≡ Some y)
word_is word text o rest y e =
    elim (chosen (bytes_eq word text) o rest (Some y) e) [
      | inl p ↦ inl ((bytes_eq-Decides word text).0 p.0, p.1)
      | inr p ↦ inr p.1
    ]

abbrev WayTaken : List (List ℕ) → By → Type 0
WayTaken fs by = (fs ≡ way_fields by) × FitsBy by

start_takes : (fs : List (List ℕ)) (by : By) → start_in fs ≡ Some by → WayTaken (codes "start" ∷ fs) by
unfolding start_in
start_takes [] by e = let is : Start ≡ by = cc in subst (λ (by : By). WayTaken (codes "start" ∷ []) by) is (refl, tt)
start_takes (a ∷ more) by e = absurd cc

outside_takes : (fs : List (List ℕ)) (by : By) → outside_in fs ≡ Some by → WayTaken (codes "outside" ∷ fs) by
unfolding outside_in
outside_takes [] by e = absurd cc
outside_takes (a ∷ []) by e = absurd cc
outside_takes (a ∷ b ∷ []) by e =
    let x = bind_some (row_in a) (λ v. row_in b >>= λ e. Some (Outside v e)) by e in
    let y = bind_some (row_in b) (λ e. Some (Outside x.0 e)) by x.2 in
    let is : Outside x.0 y.0 ≡ by = let h = y.2 in cc in
    let p = row_takes a x.0 x.1 in
    let q = row_takes b y.0 y.1 in
    let same : codes "outside" ∷ a ∷ b ∷ [] ≡ way_fields (Outside x.0 y.0) = rw (← p.0, ← q.0) refl in
    subst (λ (by : By). WayTaken (codes "outside" ∷ a ∷ b ∷ []) by) is (same, (p.1, q.1))
outside_takes (a ∷ b ∷ c ∷ more) by e = absurd cc

own_takes : (fs : List (List ℕ)) (by : By) → own_in fs ≡ Some by → WayTaken (codes "own" ∷ fs) by
unfolding own_in
own_takes [] by e = absurd cc
own_takes (a ∷ []) by e = absurd cc
own_takes (a ∷ b ∷ []) by e = absurd cc
own_takes (a ∷ b ∷ c ∷ []) by e =
    let x = bind_some (row_in a) (λ v. row_in b >>= λ e. row_in c >>= λ b. Some (Own v e b)) by e in
    let y = bind_some (row_in b) (λ e. row_in c >>= λ b. Some (Own x.0 e b)) by x.2 in
    let z = bind_some (row_in c) (λ b. Some (Own x.0 y.0 b)) by y.2 in
    let is : Own x.0 y.0 z.0 ≡ by = let h = z.2 in cc in
    let p = row_takes a x.0 x.1 in
    let q = row_takes b y.0 y.1 in
    let r = row_takes c z.0 z.1 in
    let same : codes "own" ∷ a ∷ b ∷ c ∷ [] ≡ way_fields (Own x.0 y.0 z.0) = rw (← p.0, ← q.0, ← r.0) refl in
    subst (λ (by : By). WayTaken (codes "own" ∷ a ∷ b ∷ c ∷ []) by) is (same, (p.1, q.1, r.1))
own_takes (a ∷ b ∷ c ∷ d ∷ more) by e = absurd cc

other_takes : (fs : List (List ℕ)) (by : By) → other_in fs ≡ Some by → WayTaken (codes "other" ∷ fs) by
unfolding other_in
other_takes [] by e = absurd cc
other_takes (a ∷ []) by e = absurd cc
other_takes (a ∷ b ∷ []) by e = absurd cc
other_takes (a ∷ b ∷ c ∷ []) by e = absurd cc
other_takes (a ∷ b ∷ c ∷ d ∷ []) by e =
    let x = bind_some (row_in a) (λ v. row_in b >>= λ w. row_in c >>= λ e. dash_in d >>= λ b. Some (Other v w e b)) by e in
    let y = bind_some (row_in b) (λ w. row_in c >>= λ e. dash_in d >>= λ b. Some (Other x.0 w e b)) by x.2 in
    let z = bind_some (row_in c) (λ e. dash_in d >>= λ b. Some (Other x.0 y.0 e b)) by y.2 in
    let w = bind_some (dash_in d) (λ b. Some (Other x.0 y.0 z.0 b)) by z.2 in
    let is : Other x.0 y.0 z.0 w.0 ≡ by = let h = w.2 in cc in
    let p = row_takes a x.0 x.1 in
    let q = row_takes b y.0 y.1 in
    let r = row_takes c z.0 z.1 in
    let s = dash_takes d w.0 w.1 in
    let same : codes "other" ∷ a ∷ b ∷ c ∷ d ∷ [] ≡ way_fields (Other x.0 y.0 z.0 w.0) = rw (← p.0, ← q.0, ← r.0, ← s.0) refl in
    subst (λ (by : By). WayTaken (codes "other" ∷ a ∷ b ∷ c ∷ d ∷ []) by) is (same, (p.1, q.1, r.1, s.1))
other_takes (a ∷ b ∷ c ∷ d ∷ f ∷ more) by e = absurd cc

at_word : (word text : List ℕ) (fs : List (List ℕ)) (by : By) → word ≡ text → WayTaken (text ∷ fs) by → WayTaken (word ∷ fs) by
at_word word text fs by is t = (ap (λ (w : List ℕ). w ∷ fs) is ∙ t.0, t.1)

way_takes : (fs : List (List ℕ)) (by : By) → way_in fs ≡ Some by → WayTaken fs by
unfolding way_in
way_takes [] by e = absurd cc
way_takes (word ∷ fs) by e =
    elim (word_is word (codes "start") (start_in fs) _ by e) [
      | inl p ↦ at_word word _ fs by p.0 (start_takes fs by p.1)
      | inr e ↦ elim (word_is word (codes "outside") (outside_in fs) _ by e) [
        | inl p ↦ at_word word _ fs by p.0 (outside_takes fs by p.1)
        | inr e ↦ elim (word_is word (codes "own") (own_in fs) _ by e) [
          | inl p ↦ at_word word _ fs by p.0 (own_takes fs by p.1)
          | inr e ↦ elim (word_is word (codes "other") (other_in fs) None by e) [
            | inl p ↦ at_word word _ fs by p.0 (other_takes fs by p.1)
            | inr e ↦ absurd cc
          ]
        ]
      ]
    ]

way_again : (by : By) → FitsBy by → way_in (way_fields by) ≡ Some by
unfolding way_in start_in outside_in own_in other_in
way_again Start fits = refl
way_again (Outside v e) fits = rw (row_again v fits.0, row_again e fits.1) refl
way_again (Own v e b) fits = rw (row_again v fits.0, row_again e fits.1, row_again b fits.2) refl
way_again (Other v w e b) fits = rw (row_again v fits.0, row_again w fits.1, row_again e fits.2, dash_again b fits.3) refl

abbrev ViewTaken : List (List ℕ) → NumberedView → Type 0
ViewTaken fs v = (fs ≡ view_fields v) × FitsRow v.number × FitsView v.view

view_of_takes : (n c q s : List ℕ) (more : List (List ℕ)) (by : By) (v : NumberedView) → view_of n c q s by ≡ Some v → WayTaken more by → ViewTaken (n ∷ c ∷ q ∷ s ∷ more) v
unfolding view_of
view_of_takes n c q s more by v given t =
    let a = bind_some (row_in n) (λ number. row_in c >>= λ component. below_in 256 q >>= λ state. status_in s >>= λ status. Some (record { number = number; view = record { component = component; state = state; status = status; by = by } })) v given in
    let b = bind_some (row_in c) (λ component. below_in 256 q >>= λ state. status_in s >>= λ status. Some (record { number = a.0; view = record { component = component; state = state; status = status; by = by } })) v a.2 in
    let d = bind_some (below_in 256 q) (λ state. status_in s >>= λ status. Some (record { number = a.0; view = record { component = b.0; state = state; status = status; by = by } })) v b.2 in
    let g = bind_some (status_in s) (λ status. Some (record { number = a.0; view = record { component = b.0; state = d.0; status = status; by = by } })) v d.2 in
    let made : NumberedView = record { number = a.0; view = record { component = b.0; state = d.0; status = g.0; by = by } } in
    let is : made ≡ v = let h = g.2 in cc in
    let p0 = row_takes n a.0 a.1 in
    let p1 = row_takes c b.0 b.1 in
    let p2 = below_takes 256 q d.0 d.1 in
    let p3 = status_takes s g.0 g.1 in
    let same : n ∷ c ∷ q ∷ s ∷ more ≡ view_fields made = rw (← p0.0, ← p1.0, ← p2.0, p3.0, ← t.0) refl in
    subst (λ (v : NumberedView). ViewTaken (n ∷ c ∷ q ∷ s ∷ more) v) is
    (same, p0.1, record { components = p1.1; states = p2.1; statuses = p3.1; ways = t.1 })

view_takes : (fs : List (List ℕ)) (v : NumberedView) → view_in fs ≡ Some v → ViewTaken fs v
unfolding view_in
view_takes [] v e = absurd cc
view_takes (n ∷ []) v e = absurd cc
view_takes (n ∷ c ∷ []) v e = absurd cc
view_takes (n ∷ c ∷ q ∷ []) v e = absurd cc
view_takes (n ∷ c ∷ q ∷ s ∷ more) v e =
    let b = bind_some (way_in more) (λ by. view_of n c q s by) v e in
    view_of_takes n c q s more b.0 v b.2 (way_takes more b.0 b.1)

view_again : (v : NumberedView) → FitsRow v.number → FitsView v.view → view_in (view_fields v) ≡ Some v
unfolding view_in view_of
view_again v small fits =
    rw (way_again v.view.by fits.ways, row_again v.number small, row_again v.view.component fits.components, below_again 256 v.view.state fits.states (omega (arith, fits.states)), status_again v.view.status fits.statuses) refl

-- ---- the last step

abbrev LastTaken : List (List ℕ) → Last → Type 0
LastTaken fs l = (fs ≡ last_fields l) × FitsLast l

last_of_takes : (c e s v b l : List ℕ) (x : Last) → last_of c e s v b l ≡ Some x → LastTaken (c ∷ e ∷ s ∷ v ∷ b ∷ l ∷ []) x
unfolding last_of
last_of_takes c e s v b l x given =
    let a0 = bind_some (row_in c) (λ component. row_in e >>= λ edge. status_in s >>= λ status. row_in v >>= λ view. dash_in b >>= λ body. row_in l >>= λ lock. Some (record { component = component; edge = edge; status = status; view = view; body = body; lock = lock })) x given in
    let a1 = bind_some (row_in e) (λ edge. status_in s >>= λ status. row_in v >>= λ view. dash_in b >>= λ body. row_in l >>= λ lock. Some (record { component = a0.0; edge = edge; status = status; view = view; body = body; lock = lock })) x a0.2 in
    let a2 = bind_some (status_in s) (λ status. row_in v >>= λ view. dash_in b >>= λ body. row_in l >>= λ lock. Some (record { component = a0.0; edge = a1.0; status = status; view = view; body = body; lock = lock })) x a1.2 in
    let a3 = bind_some (row_in v) (λ view. dash_in b >>= λ body. row_in l >>= λ lock. Some (record { component = a0.0; edge = a1.0; status = a2.0; view = view; body = body; lock = lock })) x a2.2 in
    let a4 = bind_some (dash_in b) (λ body. row_in l >>= λ lock. Some (record { component = a0.0; edge = a1.0; status = a2.0; view = a3.0; body = body; lock = lock })) x a3.2 in
    let a5 = bind_some (row_in l) (λ lock. Some (record { component = a0.0; edge = a1.0; status = a2.0; view = a3.0; body = a4.0; lock = lock })) x a4.2 in
    let made : Last = record { component = a0.0; edge = a1.0; status = a2.0; view = a3.0; body = a4.0; lock = a5.0 } in
    let is : made ≡ x = let h = a5.2 in cc in
    let p0 = row_takes c a0.0 a0.1 in
    let p1 = row_takes e a1.0 a1.1 in
    let p2 = status_takes s a2.0 a2.1 in
    let p3 = row_takes v a3.0 a3.1 in
    let p4 = dash_takes b a4.0 a4.1 in
    let p5 = row_takes l a5.0 a5.1 in
    let same : c ∷ e ∷ s ∷ v ∷ b ∷ l ∷ [] ≡ last_fields made = rw (← p0.0, ← p1.0, p2.0, ← p3.0, ← p4.0, ← p5.0) refl in
    subst (λ (x : Last). LastTaken (c ∷ e ∷ s ∷ v ∷ b ∷ l ∷ []) x) is
    (same, record { components = p0.1; edges = p1.1; statuses = p2.1; last_view = p3.1; last_body = p4.1; locks = p5.1 })

last_takes : (fs : List (List ℕ)) (x : Last) → last_in fs ≡ Some x → LastTaken fs x
unfolding last_in
last_takes [] x given = absurd cc
last_takes (c ∷ []) x given = absurd cc
last_takes (c ∷ e ∷ []) x given = absurd cc
last_takes (c ∷ e ∷ s ∷ []) x given = absurd cc
last_takes (c ∷ e ∷ s ∷ v ∷ []) x given = absurd cc
last_takes (c ∷ e ∷ s ∷ v ∷ b ∷ []) x given = absurd cc
last_takes (c ∷ e ∷ s ∷ v ∷ b ∷ l ∷ []) x given = last_of_takes c e s v b l x given
last_takes (c ∷ e ∷ s ∷ v ∷ b ∷ l ∷ m ∷ more) x given = absurd cc

last_again : (l : Last) → FitsLast l → last_in (last_fields l) ≡ Some l
unfolding last_in last_of
last_again l fits =
    rw (row_again l.component fits.components, row_again l.edge fits.edges, status_again l.status fits.statuses, row_again l.view fits.last_view, dash_again l.body fits.last_body, row_again l.lock fits.locks) refl

-- ---- a head

abbrev HeadTaken : List (List ℕ) → Head → Type 0
HeadTaken fs h = (x : List ℕ) × (more : List (List ℕ)) × (fs ≡ head_fields h (x ∷ more)) × FitsRow h.number × FitsRow h.total

head_of_takes : (i of n : List ℕ) (x : List ℕ) (more : List (List ℕ)) (h : Head) → head_of i of n ≡ Some h → HeadTaken (i ∷ of ∷ n ∷ x ∷ more) h
unfolding head_of
head_of_takes i of n x more h given =
    elim (word_is of (codes "of") (row_in i >>= λ number. colon_in (pieces 58 n) >>= λ total. Some (record { number = number; total = total })) None h given) [
      | inl p ↦
          let a = bind_some (row_in i) (λ number. colon_in (pieces 58 n) >>= λ total. Some (record { number = number; total = total })) h p.1 in
          let b = bind_some (colon_in (pieces 58 n)) (λ total. Some (record { number = a.0; total = total })) h a.2 in
          let made : Head = record { number = a.0; total = b.0 } in
          let is : made ≡ h = let h = b.2 in cc in
          let p0 = row_takes i a.0 a.1 in
          let p1 = colon_takes n b.0 b.1 in
          let same : i ∷ of ∷ n ∷ x ∷ more ≡ head_fields made (x ∷ more) = rw (← p0.0, ← p1.0, p.0) refl in
          subst (λ (h : Head). HeadTaken (i ∷ of ∷ n ∷ x ∷ more) h) is (x, more, same, p0.1, p1.1)
      | inr e ↦ absurd cc
    ]

head_takes : (fs : List (List ℕ)) (h : Head) → head_in fs ≡ Some h → HeadTaken fs h
unfolding head_in
head_takes [] h e = absurd cc
head_takes (a ∷ []) h e = absurd cc
head_takes (a ∷ b ∷ []) h e = absurd cc
head_takes (a ∷ b ∷ c ∷ []) h e = absurd cc
head_takes (a ∷ b ∷ c ∷ x ∷ more) h e = head_of_takes a b c x more h e

head_again : (h : Head) (x : List ℕ) (more : List (List ℕ)) → FitsRow h.number → FitsRow h.total → head_in (head_fields h (x ∷ more)) ≡ Some h
unfolding head_in head_of
head_again h x more small fits = rw (row_again h.number small, colon_again h.total fits) refl

-- ---- a line

spelled_word : (word text : List ℕ) (fs : List (List ℕ)) (l : Line) (x : List ℕ) (more gs : List (List ℕ)) → word ≡ text → fs ≡ gs → fields_of l (x ∷ more) ≡ text ∷ gs → FitsLine l → Spells (word ∷ fs) l
spelled_word word text fs l x more gs is same fields fits =
    (x, more, ap (λ (w : List ℕ). w ∷ fs) is ∙ ap (λ (g : List (List ℕ)). text ∷ g) same ∙ sym fields, fits)

line_takes : (fs : List (List ℕ)) (l : Line) → line_in fs ≡ Some l → Spells fs l
unfolding line_in
line_takes [] l e = absurd cc
line_takes (word ∷ fs) l e =
    elim (word_is word (codes "body") (option_map lines.Body (body_in fs)) _ l e) [
      | inl p ↦
          let x = map_some lines.Body (body_in fs) l p.1 in
          let t = body_takes fs x.0 x.1 in
          subst (λ (l : Line). Spells (word ∷ fs) l) x.2 (spelled_word word _ fs (lines.Body x.0) [] [] (body_fields x.0) p.0 t.0 refl (t.1, t.2))
      | inr e ↦ elim (word_is word (codes "view") (option_map lines.View (view_in fs)) _ l e) [
        | inl p ↦
            let x = map_some lines.View (view_in fs) l p.1 in
            let t = view_takes fs x.0 x.1 in
            subst (λ (l : Line). Spells (word ∷ fs) l) x.2 (spelled_word word _ fs (lines.View x.0) [] [] (view_fields x.0) p.0 t.0 refl (t.1, t.2))
        | inr e ↦ elim (word_is word (codes "exit") (option_map lines.Exit (last_in fs)) _ l e) [
          | inl p ↦
              let x = map_some lines.Exit (last_in fs) l p.1 in
              let t = last_takes fs x.0 x.1 in
              subst (λ (l : Line). Spells (word ∷ fs) l) x.2 (spelled_word word _ fs (lines.Exit x.0) [] [] (last_fields x.0) p.0 t.0 refl t.1)
          | inr e ↦ elim (word_is word (codes "report") (option_map lines.Head (head_in fs)) None l e) [
            | inl p ↦
                let x = map_some lines.Head (head_in fs) l p.1 in
                let t = head_takes fs x.0 x.1 in
                subst (λ (l : Line). Spells (word ∷ fs) l) x.2 (spelled_word word _ fs (lines.Head x.0) t.0 t.1 (head_fields x.0 (t.0 ∷ t.1)) p.0 t.2 refl (t.3, t.4))
            | inr e ↦ absurd cc
          ]
        ]
      ]
    ]

-- the bytes of a line
abbrev pub IsSpelled : List ℕ → Line → Type 0
IsSpelled bytes l = (x : List ℕ) × (more : List (List ℕ)) × (bytes ≡ join_with_byte 32 (fields_of l (x ∷ more))) × FitsLine l

pub line_at_takes : (bytes : List ℕ) (l : Line) → line_at bytes ≡ Some l → IsSpelled bytes l
unfolding line_at
line_at_takes bytes l e =
    let t = line_takes (pieces 32 bytes) l e in
    (t.0, t.1, sym (join_with_byte-slice_split 32 bytes) ∙ ap (λ (fs : List (List ℕ)). join_with_byte 32 fs) t.2, t.3)

line_again : (l : Line) (x : List ℕ) (more : List (List ℕ)) → FitsLine l → line_in (fields_of l (x ∷ more)) ≡ Some l
unfolding line_in
line_again (lines.Body b) x more fits = rw (body_again b fits.0 fits.1) refl
line_again (lines.View v) x more fits = rw (view_again v fits.0 fits.1) refl
line_again (lines.Exit l) x more fits = rw (last_again l fits) refl
line_again (lines.Head h) x more fits = rw (head_again h x more fits.0 fits.1) refl

-- ---- fields have no space

row32 : (n : ℕ) → FitsRow n → Above 32 (decimal n)
row32 n fits = lower 32 47 (decimal n) (lit≤ tt) (row_above n fits)

status32 : (s : ℕ) → Above 32 (status_name s)
status32 s = lower 32 47 (status_name s) (lit≤ tt) (status_above s)

way_above : (by : By) → FitsBy by → AllByRecursion (Above 32) (way_fields by)
way_above Start fits = (refl, tt)
way_above (Outside v e) fits = (refl, (row32 v fits.0, (row32 e fits.1, tt)))
way_above (Own v e b) fits = (refl, (row32 v fits.0, (row32 e fits.1, (row32 b fits.2, tt))))
way_above (Other v w e b) fits = (refl, (row32 v fits.0, (row32 w fits.1, (row32 e fits.2, (dash_above b fits.3, tt)))))

body_above : (b : BodyNo) → FitsLine (lines.Body b) → AllByRecursion (Above 32) (codes "body" ∷ body_fields b)
body_above b fits =
    (refl, (row32 b.number fits.0, (row32 b.body.method fits.1.methods, (status32 b.body.entry, (end_above b.body.thrown, (status32 b.body.exit, items_above b.body.steps fits.1.each_step))))))

small32 : (n : ℕ) → n < 256 → Above 32 (decimal n)
small32 n lt = row32 n (omega (arith, lt))

view_above : (v : NumberedView) → FitsLine (lines.View v) → AllByRecursion (Above 32) (codes "view" ∷ view_fields v)
view_above v fits =
    (refl, (row32 v.number fits.0, (row32 v.view.component fits.1.components, (small32 v.view.state fits.1.states, (status32 v.view.status, way_above v.view.by fits.1.ways)))))

last_above : (l : Last) → FitsLast l → AllByRecursion (Above 32) (codes "exit" ∷ last_fields l)
last_above l fits =
    (refl, (row32 l.component fits.components, (row32 l.edge fits.edges, (status32 l.status, (row32 l.view fits.last_view, (dash_above l.body fits.last_body, (row32 l.lock fits.locks, tt)))))))

joined : (f : List ℕ) (fs : List (List ℕ)) → AllByRecursion (Above 32) (f ∷ fs) → Above 31 (join_with_byte 32 (f ∷ fs))
joined f [] h = lower 31 32 f (lit≤ tt) h.0
joined f (g ∷ fs) h = Above-append 31 f (32 ∷ join_with_byte 32 (g ∷ fs)) (lower 31 32 f (lit≤ tt) h.0) (joined g fs h.1)

-- ---- what is spelled so is read

pub body_line_again : (b : BodyNo) → FitsLine (lines.Body b) → line_at (join_with_byte 32 (codes "body" ∷ body_fields b)) ≡ Some (lines.Body b)
unfolding line_at
body_line_again b fits = ap line_in (split_join (codes "body") (body_fields b) (body_above b fits)) ∙ line_again (lines.Body b) [] [] fits

pub view_line_again : (v : NumberedView) → FitsLine (lines.View v) → line_at (join_with_byte 32 (codes "view" ∷ view_fields v)) ≡ Some (lines.View v)
unfolding line_at
view_line_again v fits = ap line_in (split_join (codes "view") (view_fields v) (view_above v fits)) ∙ line_again (lines.View v) [] [] fits

pub last_line_again : (l : Last) → FitsLast l → line_at (join_with_byte 32 (codes "exit" ∷ last_fields l)) ≡ Some (lines.Exit l)
unfolding line_at
last_line_again l fits = ap line_in (split_join (codes "exit") (last_fields l) (last_above l fits)) ∙ line_again (lines.Exit l) [] [] fits

-- and has no line feed
pub body_line_above : (b : BodyNo) → FitsLine (lines.Body b) → Above 31 (join_with_byte 32 (codes "body" ∷ body_fields b))
body_line_above b fits = joined (codes "body") (body_fields b) (body_above b fits)

pub view_line_above : (v : NumberedView) → FitsLine (lines.View v) → Above 31 (join_with_byte 32 (codes "view" ∷ view_fields v))
view_line_above v fits = joined (codes "view") (view_fields v) (view_above v fits)

pub last_line_above : (l : Last) → FitsLast l → Above 31 (join_with_byte 32 (codes "exit" ∷ last_fields l))
last_line_above l fits = joined (codes "exit") (last_fields l) (last_above l fits)

-- ---- a head, whose rest may have spaces

colon_above : (n : ℕ) → FitsRow n → Above 32 (decimal n ++ 58 ∷ [])
colon_above n fits = Above-append 32 (decimal n) (58 ∷ []) (row32 n fits) refl

abbrev head_line : Head → List ℕ → List ℕ
head_line h rest = codes "report" ++ (32 ∷ (decimal h.number ++ (32 ∷ (codes "of" ++ (32 ∷ ((decimal h.total ++ 58 ∷ []) ++ (32 ∷ rest)))))))

cut_field : (f rest : List ℕ) → Above 32 f → pieces 32 (f ++ 32 ∷ rest) ≡ f ∷ pieces 32 rest
cut_field f rest above = slice_split_at (λ b. b == 32) f 32 rest (free 32 32 f (lit≤ tt) above) refl

head_cut : (h : Head) (rest : List ℕ) → FitsRow h.number → FitsRow h.total → pieces 32 (head_line h rest) ≡ codes "report" ∷ head_fields h (pieces 32 rest)
head_cut h rest small fits =
    cut_field (codes "report") (decimal h.number ++ (32 ∷ (codes "of" ++ (32 ∷ ((decimal h.total ++ 58 ∷ []) ++ (32 ∷ rest)))))) refl ∙ ap (λ (l : List (List ℕ)). codes "report" ∷ l) (cut_field (decimal h.number) (codes "of" ++ (32 ∷ ((decimal h.total ++ 58 ∷ []) ++ (32 ∷ rest)))) (row32 h.number small) ∙ ap (λ (l : List (List ℕ)). decimal h.number ∷ l) (cut_field (codes "of") ((decimal h.total ++ 58 ∷ []) ++ (32 ∷ rest)) refl ∙ ap (λ (l : List (List ℕ)). codes "of" ∷ l) (cut_field (decimal h.total ++ 58 ∷ []) rest (colon_above h.total fits))))

head_read : (h : Head) (ps : List (List ℕ)) → 0 < length ps → FitsRow h.number → FitsRow h.total → line_in (codes "report" ∷ head_fields h ps) ≡ Some (lines.Head h)
head_read h [] some small fits = absurd (omega arith)
head_read h (x ∷ more) some small fits = line_again (lines.Head h) x more (small, fits)

no_feed_append : (xs ys : List ℕ) → NoFeed xs → NoFeed ys → NoFeed (xs ++ ys)
no_feed_append [] ys h k = k
no_feed_append (x ∷ xs) ys h k = (h.0, no_feed_append xs ys h.1 k)

no_feed_of : (n : ℕ) (xs : List ℕ) → 10 ≤ n → Above n xs → NoFeed xs
no_feed_of n xs le above = recursion_from_All (λ b. (b == 10) ≡ false) xs (free n 10 xs le above)

head_free : (h : Head) (rest : List ℕ) → FitsRow h.number → FitsRow h.total → NoFeed rest → NoFeed (head_line h rest)
head_free h rest small fits free =
    no_feed_append (codes "report" ++ 32 ∷ []) (decimal h.number ++ (32 ∷ (codes "of" ++ (32 ∷ ((decimal h.total ++ 58 ∷ []) ++ (32 ∷ rest)))))) (no_feed_of 31 (codes "report" ++ 32 ∷ []) (lit≤ tt) refl)
    (no_feed_append (decimal h.number) (32 ∷ (codes "of" ++ (32 ∷ ((decimal h.total ++ 58 ∷ []) ++ (32 ∷ rest))))) (no_feed_of 32 _ (lit≤ tt) (row32 h.number small))
    (no_feed_append (32 ∷ codes "of" ++ 32 ∷ []) ((decimal h.total ++ 58 ∷ []) ++ (32 ∷ rest)) (no_feed_of 31 (32 ∷ codes "of" ++ 32 ∷ []) (lit≤ tt) refl)
    (no_feed_append (decimal h.total ++ 58 ∷ []) (32 ∷ rest) (no_feed_of 32 _ (lit≤ tt) (colon_above h.total fits)) (refl, free))))

head_line_text : (h : Head) (rest : List ℕ) → head_text h.number h.total rest ≡ head_line h rest ++ 10 ∷ []
unfolding head_text
head_line_text h rest = simp append_assoc

pub head_line_again : (h : Head) (rest : List ℕ) → FitsRow h.number × FitsRow h.total → NoFeed rest → (line : List ℕ) × NoFeed line × (head_text h.number h.total rest ≡ line ++ 10 ∷ []) × (line_at line ≡ Some (lines.Head h))
unfolding line_at
head_line_again h rest (small, fits) free = (
  head_line h rest,
  head_free h rest small fits free,
  head_line_text h rest,
  ap line_in (head_cut h rest small fits) ∙ head_read h (pieces 32 rest) (omega (arith, length-slice_split (λ b. b == 32) rest)) small fits,
)
