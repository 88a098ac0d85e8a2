-- The tests of the checker, and the instances of the rules that lead out of the facts.
use Rattle.std.proofs.Common.{◌≡◌, ℕ, Bool, true, false, List, [], ◌∷◌, Option, Some, refl, sym, ap, ◌∙◌, subst, ⊎_elim, inl, inr}
use Rattle.std.proofs.lemmas.Bool.{false≢true}
use Rattle.app_model.specs.Facts.{Fact, View, At, Ret, Exc}
use Rattle.app_model.specs.Masks.{in_mask}
use Rattle.app_model.specs.Words.{pc_at, handler_at, leaves_at}
use Rattle.flow_model.specs.Derived.{HasAll}
use Rattle.flow_model.specs.Places.{Place, place, at_pc, number_of, inside_place, start_place, between_place}
use Rattle.flow_model.specs.Places as named
use Rattle.flow_model.specs.Rules.{Carries, Rules}
use Rattle.flow_model.specs.Rules as flow
use Rattle.flow_model.specs.Subject.{status_masks}
use Rattle.cert_check.specs.Broken.{LeadsOut, place_of}
use Rattle.cert_facts.specs.Cases.{Case, Spot, set_of}
use Rattle.cert_check.specs.Firsts.{IsBrokenAt, is_inside}
use Rattle.cert_check.specs.EdgeTests.{IsOutBetween}
use Rattle.cert_check.specs.Tests.{StepsOut, ThrowsOut, IsOut}
use Rattle.cert_check.specs.Verdict.{rule_of}
use Rattle.cert_check.specs.declared.verdict.Rule.{Rule}
use Rattle.cert_check.specs.declared.verdict.Rule.TheVariants.{V1, V2, V3, V4, V5, I1, I2, I3, C1, C2, C3}

abbrev pub spot : Case → (m e i : ℕ) → Spot
spot t m e i = record { entry = record { case = t; method = m; status = e }; index = i }

-- ---- a rule by its name
abbrev pub named_rule : named.Rule → Rule
named_rule named.V1 = V1
named_rule named.V2 = V2
named_rule named.V3 = V3
named_rule named.V4 = V4
named_rule named.V5 = V5
named_rule named.I1 = I1
named_rule named.I2 = I2
named_rule named.I3 = I3
named_rule named.C1 = C1
named_rule named.C2 = C2
named_rule named.C3 = C3

named_again : (rule : Rule) → named_rule (rule_of rule) ≡ rule
named_again V1 = refl
named_again V2 = refl
named_again V3 = refl
named_again V4 = refl
named_again V5 = refl
named_again I1 = refl
named_again I2 = refl
named_again I3 = refl
named_again C1 = refl
named_again C2 = refl
named_again C3 = refl

pub rule_again : (q : named.Rule) → rule_of (named_rule q) ≡ q
rule_again named.V1 = refl
rule_again named.V2 = refl
rule_again named.V3 = refl
rule_again named.V4 = refl
rule_again named.V5 = refl
rule_again named.I1 = refl
rule_again named.I2 = refl
rule_again named.I3 = refl
rule_again named.C1 = refl
rule_again named.C2 = refl
rule_again named.C3 = refl

-- ---- an instance inside callbacks that leads out, by its instruction
record IsStep (t : Case) (at : Place) : Type 0 where
  m : ℕ
  e : ℕ
  i : ℕ
  s : ℕ
  has : set_of t (At m e i s) ≡ true
  out : StepsOut (named_rule at.rule) (spot t m e i) s
  is : at ≡ at_pc t.subject at.rule m e i
  inner : is_inside (named_rule at.rule) ≡ true

step_of : (t : Case) {needs : List Fact} {f : Fact} (r : flow.Inside t.subject t.lock (status_masks t.subject t.lock) needs f) → HasAll (set_of t) needs → set_of t f ≡ false → IsStep t (inside_place t.subject t.lock (status_masks t.subject t.lock) r)
step_of t (flow.I1 {m = m} {e = e} {i = i} {s = s} {j = j} {t = u} k own there mask) has lacks = record { m = m; e = e; i = i; s = s; has = has.0; out = inl (own, (k, (j, there, (u, mask, lacks)))); is = refl; inner = refl }
step_of t (flow.I1_return {m = m} {e = e} {i = i} {s = s} returns) has lacks = record { m = m; e = e; i = i; s = s; has = has.0; out = inr (returns, lacks); is = refl; inner = refl }
step_of t (flow.I2 {m = m} {e = e} {i = i} {s = s} {j = j} {t = u} k own there mask) has lacks = record { m = m; e = e; i = i; s = s; has = has.0; out = (own, (k, (j, there, (u, mask, lacks)))); is = refl; inner = refl }
step_of t (flow.I3 {m = m} {e = e} {i = i} {s = s} {h = h} {t = u} k there mask) has lacks = record { m = m; e = e; i = i; s = s; has = has.0; out = inl (k, (h, there, (u, mask, lacks))); is = refl; inner = refl }
step_of t (flow.I3_leaves {m = m} {e = e} {i = i} {s = s} {t = u} leaves mask) has lacks = record { m = m; e = e; i = i; s = s; has = has.0; out = inr (leaves, (u, mask, lacks)); is = refl; inner = refl }
step_of t (flow.C1 {m = m} {e = e} {i = i} {s = s} n callee opened) has lacks = record { m = m; e = e; i = i; s = s; has = has.0; out = (opened, (n, callee, lacks)); is = refl; inner = refl }
step_of t (flow.C2 {m = m} {e = e} {i = i} {s = s} {t = u} {j = j} n callee opened there) has lacks = record { m = m; e = e; i = i; s = s; has = has.0; out = (opened, (n, callee, (j, there, (u, has.1.0, lacks)))); is = refl; inner = refl }
step_of t (flow.C3 {m = m} {e = e} {i = i} {s = s} {t = u} {h = h} n k callee opened there) has lacks = record { m = m; e = e; i = i; s = s; has = has.0; out = (opened, (n, callee, inl (k, (h, there, (u, has.1.0, lacks))))); is = refl; inner = refl }
step_of t (flow.C3_leaves {m = m} {e = e} {i = i} {s = s} {t = u} n callee opened leaves) has lacks = record { m = m; e = e; i = i; s = s; has = has.0; out = (opened, (n, callee, inr (leaves, (u, has.1.0, lacks)))); is = refl; inner = refl }

-- ---- one of the other rules
record IsMove (t : Case) (at : Place) : Type 0 where
  out : IsOutBetween (named_rule at.rule) t at.a at.b at.c
  outer : is_inside (named_rule at.rule) ≡ false

start_of : (t : Case) {needs : List Fact} {f : Fact} (r : flow.Starts t.subject t.lock needs f) → HasAll (set_of t) needs → set_of t f ≡ false → IsMove t (start_place t.subject t.lock r)
start_of t (flow.V3 {c = c} {q = q} {s = s} {m = m} {edge = edge} e there from method) has lacks = record { out = (edge, there, from, (s, (has.0, (m, method, lacks)))); outer = refl }

move_of : (t : Case) {needs : List Fact} {f : Fact} (r : flow.Between t.subject (Carries t.subject t.lock) needs f) → HasAll (set_of t) needs → set_of t f ≡ false → IsMove t (between_place t.subject (Carries t.subject t.lock) r)
move_of t (flow.V1 {c = c} below) has lacks = record { out = (below, refl, refl, lacks); outer = refl }
move_of t (flow.V2 {c = c} {q = q} {s = s} {t = u} {to = to} {edge = edge} {needs = needs} e there from at none carried) has lacks =
    record { out = (edge, there, from, (s, (has.0, (none, (u, (needs, carried, has.1), rw at lacks))))); outer = refl }
move_of t (flow.V4 {c = c} {q = q} {s = s} {t = u} {to = to} {edge = edge} {needs = needs} e m there from at method carried) has lacks =
    record { out = (edge, there, from, (s, (has.0, (m, method, (u, (needs, carried, has.1), rw at lacks))))); outer = refl }
move_of t (flow.V5 {c = c} {q = q} {d = d} {p = p} {s = s} {t = u} {edge = edge} {needs = needs} e other there from carried) has lacks =
    record { out = (other, (s, (has.0, (u, (e, (edge, there, rw from has.1.0, (needs, carried, has.1.1))), lacks)))); outer = refl }

-- ---- a broken place is found by its test
module _ (rule : Rule) (t : Case) (a b c : ℕ) where
  same_rule : (at : Place) → at ≡ place (rule_of rule) a b c → named_rule at.rule ≡ rule
  same_rule at is = ap (λ (p : Place). named_rule p.rule) is ∙ named_again rule

  pub broken_inside : is_inside rule ≡ true → IsBrokenAt rule t a b c → (i : ℕ) × (number_of (pc_at t.subject.app a i) ≡ c) × IsOut rule (spot t a b i)
  broken_inside inner broken = go broken.rule broken.has broken.lacks broken.there
    where
      step : (at : Place) → IsStep t at → at ≡ place (rule_of rule) a b c → (i : ℕ) × (number_of (pc_at t.subject.app a i) ≡ c) × IsOut rule (spot t a b i)
      step at s is =
          let there : at_pc t.subject at.rule s.m s.e s.i ≡ place (rule_of rule) a b c = sym s.is ∙ is in
          let method : s.m ≡ a = ap (λ (p : Place). p.a) there in
          let status : s.e ≡ b = ap (λ (p : Place). p.b) there in
          let pc : number_of (pc_at t.subject.app s.m s.i) ≡ c = ap (λ (p : Place). p.c) there in
          let out : StepsOut rule (spot t s.m s.e s.i) s.s = subst (λ (r : Rule). StepsOut r (spot t s.m s.e s.i) s.s) (same_rule at is) s.out in
          let found : (i : ℕ) × (number_of (pc_at t.subject.app s.m i) ≡ c) × IsOut rule (spot t s.m s.e i) = (s.i, pc, (s.s, (s.has, out))) in
          rw (method, status) at found

      move : (at : Place) → IsMove t at → at ≡ place (rule_of rule) a b c → ⊥
      move at m is = false≢true (sym m.outer ∙ ap is_inside (same_rule at is) ∙ inner)

      go : {needs : List Fact} {f : Fact} (r : Rules t.subject t.lock needs f) → HasAll (set_of t) needs → set_of t f ≡ false → place_of t.subject t.lock r ≡ place (rule_of rule) a b c → (i : ℕ) × (number_of (pc_at t.subject.app a i) ≡ c) × IsOut rule (spot t a b i)
      go (inl (inl r)) has lacks is = step _ (step_of t r has lacks) is
      go (inl (inr r)) has lacks is = absurd (move _ (start_of t r has lacks) is)
      go (inr r) has lacks is = absurd (move _ (move_of t r has lacks) is)

  pub broken_between : is_inside rule ≡ false → IsBrokenAt rule t a b c → IsOutBetween rule t a b c
  broken_between outer broken = go broken.rule broken.has broken.lacks broken.there
    where
      step : (at : Place) → IsStep t at → at ≡ place (rule_of rule) a b c → ⊥
      step at s is = false≢true (sym outer ∙ sym (ap is_inside (same_rule at is)) ∙ s.inner)

      move : (at : Place) → IsMove t at → at ≡ place (rule_of rule) a b c → IsOutBetween rule t a b c
      move at m is =
          let one : at.a ≡ a = ap (λ (p : Place). p.a) is in
          let two : at.b ≡ b = ap (λ (p : Place). p.b) is in
          let three : at.c ≡ c = ap (λ (p : Place). p.c) is in
          rw (one, two, three) at (subst (λ (r : Rule). IsOutBetween r t at.a at.b at.c) (same_rule at is) m.out)

      go : {needs : List Fact} {f : Fact} (r : Rules t.subject t.lock needs f) → HasAll (set_of t) needs → set_of t f ≡ false → place_of t.subject t.lock r ≡ place (rule_of rule) a b c → IsOutBetween rule t a b c
      go (inl (inl r)) has lacks is = absurd (step _ (step_of t r has lacks) is)
      go (inl (inr r)) has lacks is = move _ (start_of t r has lacks) is
      go (inr r) has lacks is = move _ (move_of t r has lacks) is

-- ---- what a test finds is an instance that leads out
module _ (t : Case) (m e i pc : ℕ) (is : pc_at t.subject.app m i ≡ Some pc) where
  by : (q : named.Rule) (needs : List Fact) (f : Fact) (r : flow.Inside t.subject t.lock (status_masks t.subject t.lock) needs f) → inside_place t.subject t.lock (status_masks t.subject t.lock) r ≡ at_pc t.subject q m e i
      → HasAll (set_of t) needs → set_of t f ≡ false → LeadsOut t.subject t.lock (set_of t) (place q m e pc)
  by q needs f r at has lacks = record { needs = needs; fact = f; rule = inl (inl r); there = at ∙ ap (λ (o : Option ℕ). place q m e (number_of o)) is; has = has; lacks = lacks }

  thrown_out : (q : named.Rule) (led : ℕ → Bool) (needs : ℕ → List Fact) → ((u : ℕ) → led u ≡ true → HasAll (set_of t) (needs u))
      → ((k h u : ℕ) → handler_at t.subject.app m i k ≡ Some h → led u ≡ true → (r : flow.Inside t.subject t.lock (status_masks t.subject t.lock) (needs u) (At m e h u)) × (inside_place t.subject t.lock (status_masks t.subject t.lock) r ≡ at_pc t.subject q m e i))
      → ((u : ℕ) → leaves_at t.subject.app m i ≡ true → led u ≡ true → (r : flow.Inside t.subject t.lock (status_masks t.subject t.lock) (needs u) (Exc m e u)) × (inside_place t.subject t.lock (status_masks t.subject t.lock) r ≡ at_pc t.subject q m e i))
      → ThrowsOut (spot t m e i) led → LeadsOut t.subject t.lock (set_of t) (place q m e pc)
  thrown_out q led needs has to out thrown = ⊎_elim
      (λ z. (let y = z.1.2 in let r = to z.0 z.1.0 y.0 z.1.1 y.1 in by q (needs y.0) (At m e z.1.0 y.0) r.0 r.1 (has y.0 y.1) y.2))
      (λ z. (let y = z.1 in let r = out y.0 z.0 y.1 in by q (needs y.0) (Exc m e y.0) r.0 r.1 (has y.0 y.1) y.2))
      thrown

  pub out_broken : (rule : Rule) → IsOut rule (spot t m e i) → IsBrokenAt rule t m e pc
  out_broken I1 z = ⊎_elim
      (λ y. (let w = y.1.1 in by named.I1 (At m e i z.0 ∷ []) (At m e w.0 w.2.0) (flow.I1 y.1.0 y.0 w.1 w.2.1) refl (z.1.0, tt) w.2.2))
      (λ y. by named.I1 (At m e i z.0 ∷ []) (Ret m e z.0) (flow.I1_return y.0) refl (z.1.0, tt) y.1)
      z.1.1
  out_broken I2 z = (let y = z.1.1 in let w = y.1.1 in by named.I2 (At m e i z.0 ∷ []) (At m e w.0 w.2.0) (flow.I2 y.1.0 y.0 w.1 w.2.1) refl (z.1.0, tt) w.2.2)
  out_broken I3 z =
      thrown_out named.I3 (in_mask ((status_masks t.subject t.lock).throws m i z.0)) (λ u. At m e i z.0 ∷ []) (λ u led. (z.1.0, tt))
      (λ k h u there led. (flow.I3 k there led, refl)) (λ u leaves led. (flow.I3_leaves leaves led, refl)) z.1.1
  out_broken C1 z = (let y = z.1.1 in let w = y.1 in by named.C1 (At m e i z.0 ∷ []) (At w.0.0 z.0 0 z.0) (flow.C1 w.0 w.1 y.0) refl (z.1.0, tt) w.2)
  out_broken C2 z = (let y = z.1.1 in let w = y.1 in let v = w.2 in by named.C2 (At m e i z.0 ∷ Ret w.0.0 z.0 v.2.0 ∷ []) (At m e v.0 v.2.0) (flow.C2 w.0 w.1 y.0 v.1) refl (z.1.0, (v.2.1, tt)) v.2.2)
  out_broken C3 z = (let y = z.1.1 in let w = y.1 in
      thrown_out named.C3 (λ u. set_of t (Exc w.0.0 z.0 u)) (λ u. At m e i z.0 ∷ Exc w.0.0 z.0 u ∷ []) (λ u led. (z.1.0, (led, tt)))
      (λ k h u there led. (flow.C3 w.0 k w.1 y.0 there, refl)) (λ u leaves led. (flow.C3_leaves w.0 w.1 y.0 leaves, refl)) w.2)
  out_broken V1 z = absurd z.1.1
  out_broken V2 z = absurd z.1.1
  out_broken V3 z = absurd z.1.1
  out_broken V4 z = absurd z.1.1
  out_broken V5 z = absurd z.1.1

module _ (t : Case) (a b c : ℕ) where
  pub between_broken : (rule : Rule) → IsOutBetween rule t a b c → IsBrokenAt rule t a b c
  between_broken V1 z = record { needs = []; fact = View a 0 flow.no_lock; rule = inr (flow.V1 z.0); there = rw (z.1, z.2) refl; has = tt; lacks = z.3 }
  between_broken V2 z = (let y = z.3 in let w = y.1.1.1 in record {
    needs = View a b y.0 ∷ w.1.0;
    fact = View a z.0.to w.0;
    rule = inr (flow.V2 c z.1 z.2 refl y.1.1.0 w.1.1);
    there = refl;
    has = (y.1.0, w.1.2);
    lacks = w.2;
  })
  between_broken V3 z = (let y = z.3 in let w = y.1.1 in record {
    needs = View a b y.0 ∷ [];
    fact = At w.0 (flow.entered t.subject t.lock a z.0 y.0) 0 (flow.entered t.subject t.lock a z.0 y.0);
    rule = inl (inr (flow.V3 c z.1 z.2 w.1));
    there = refl;
    has = (y.1.0, tt);
    lacks = w.2;
  })
  between_broken V4 z = (let y = z.3 in let v = y.1.1 in let w = v.2 in record {
    needs = View a b y.0 ∷ w.1.0;
    fact = View a z.0.to w.0;
    rule = inr (flow.V4 c v.0 z.1 z.2 refl v.1 w.1.1);
    there = refl;
    has = (y.1.0, w.1.2);
    lacks = w.2;
  })
  between_broken V5 z = (let y = z.1 in let w = y.1.1 in let v = w.1.1 in record {
    needs = View a b y.0 ∷ View c v.0.from y.0 ∷ v.3.0;
    fact = View a b w.0;
    rule = inr (flow.V5 w.1.0 z.0 v.1 refl v.3.1);
    there = refl;
    has = (y.1.0, (v.2, v.3.2));
    lacks = w.2;
  })
  between_broken I1 z = absurd z
  between_broken I2 z = absurd z
  between_broken I3 z = absurd z
  between_broken C1 z = absurd z
  between_broken C2 z = absurd z
  between_broken C3 z = absurd z
