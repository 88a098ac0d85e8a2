-- Rows of links that grow, and that the links of a call graph lie between its nodes.
use Rattle.std.proofs.Common.{◌≡◌, ℕ, ◌+◌, ◌≤◌, ◌<◌, ◌++◌, ◌∷◌, [], List, length, refl, sym, ap, ◌∙◌, subst, inl, inr, ⊎_elim, arith, Contains, Option, Some, None, slice_get, get_or}
use Rattle.std.specs.List.{All}
use Rattle.std.proofs.lemmas.Bool.{cases_lt}
use Rattle.std.proofs.lemmas.List.{get_or_past}
use Rattle.std.proofs.lemmas.List.Elements.{Contains-append_left, Contains-push, Contains-push_cases}
use Rattle.std.proofs.lemmas.Option.{slice_get_within, get_or_from_slice_get}
use Rattle.ns_base.specs.declared.rows.MethodNo.{MethodNo}
use Rattle.app_model.specs.CallGraph.{FitsCode, GraphParts, IsGraph, TargetParts, callees_of, targets_of, use_at}
use Rattle.app_model.specs.Parts.{AppParts}
use Rattle.app_model.specs.Words.{code_len}
use Rattle.call_reach.specs.declared.links.Link.{Link}
use Rattle.call_reach.specs.declared.net.Way.{Way}
use Rattle.call_reach.specs.declared.net.Way.TheVariants.{ToCallees, ToCallers}
use Rattle.call_reach.specs.Net.{Adds, AreLinks, Before, HasAt, HasIn, Haves, Uses, UsesAt, UsesIn, link_by}
use Rattle.call_reach.specs.Spread.{AreWithin, IsWithin}

pub adds_none : (These : Link → Type 0) (links : List Link) → ((link : Link) → These link → ⊥) → Adds These links links
adds_none These links off = record { kept = λ link h. h; only = λ link h. inl h; all = λ link t. absurd (off link t) }

pub adds_one : (These : Link → Type 0) (old new : List Link) (one : Link) → new ≡ old ++ one ∷ [] → These one → ((link : Link) → These link → link ≡ one) → Adds These old new
adds_one These old new one is it same = rw is record {
  kept = λ link h. Contains-append_left old (one ∷ []) link h;
  only = λ link h. ⊎_elim (λ before. inl before) (λ here. inr (subst These here it)) (Contains-push_cases old one link h);
  all = λ link t. subst (Contains (old ++ one ∷ [])) (sym (same link t)) (Contains-push old one);
}

pub adds_start : (At : ℕ → Link → Type 0) (links : List Link) → Adds (Before At 0) links links
adds_start At links = adds_none (Before At 0) links (λ link b. absurd (omega (arith, b.1)))

pub adds_more : (At : ℕ → Link → Type 0) (i : ℕ) (a b c : List Link) → Adds (Before At i) a b → Adds (At i) b c → Adds (Before At (i + 1)) a c
adds_more At i a b c f g = record {
  kept = λ link h. g.kept link (f.kept link h);
  only = λ link h. ⊎_elim
      (λ before. ⊎_elim (λ old. inl old) (λ (new : Before At i link). inr (new.0, omega (arith, new.1), new.2)) (f.only link before))
      (λ new. inr (i, omega arith, new)) (g.only link h);
  all = λ link t. ⊎_elim
      (λ less. g.kept link (f.all link (t.0, less, t.2)))
      (λ le. g.all link (let here : t.0 ≡ i = omega (arith, le, t.1) in subst (λ (k : ℕ). At k link) here t.2)) (cases_lt t.0 i);
}

pub adds_whole : (At : ℕ → Link → Type 0) (bound : ℕ) (a b : List Link) → ((k : ℕ) (link : Link) → At k link → k < bound) → Adds (Before At bound) a b → Adds (λ (link : Link). (k : ℕ) × At k link) a b
adds_whole At bound a b within f = record {
  kept = f.kept;
  only = λ link h. ⊎_elim (λ old. inl old) (λ (new : Before At bound link). inr (new.0, new.2)) (f.only link h);
  all = λ link t. f.all link (t.0, within t.0 link t.1, t.1);
}

-- ---- a method that a set has
module _ (graph : GraphParts) (way : Way) (methods : ℕ) where
  pub has_adds : (s k : ℕ) (n : MethodNo) (old new : List Link) → slice_get (callees_of graph s) k ≡ Some n → new ≡ old ++ link_by way (methods + s) n.0 ∷ [] → Adds (HasAt graph way methods s k) old new
  has_adds s k n old new is e = adds_one (HasAt graph way methods s k) old new (link_by way (methods + s) n.0) e
      (n, is, refl)
      (λ link t. t.2 ∙ ap (λ (n : MethodNo). link_by way (methods + s) n.0) (let both : ◌≡◌ {A = Option MethodNo} (Some t.0) (Some n) = sym t.1 ∙ is in cc))

-- ---- what is out of range has no link
use_in_row : (graph : GraphParts) (m i : ℕ) (s : Option ℕ) → use_at graph m i ≡ Some s → i < length (get_or graph.uses m [])
unfolding use_at
use_in_row graph m i s is = slice_get_within (get_or graph.uses m []) i s is

pub row_in : (graph : GraphParts) (m i : ℕ) → i < length (get_or graph.uses m []) → m < length graph.uses
row_in graph m i lt = ⊎_elim (λ l. l) (λ past. absurd (let e = get_or_past graph.uses m [] past in let h : i < 0 = rw e at lt in omega arith)) (cases_lt m (length graph.uses))

pub callees_within : (graph : GraphParts) (s k : ℕ) (n : MethodNo) → slice_get (callees_of graph s) k ≡ Some n → s < length graph.sets
callees_within graph s k n is = go (slice_get graph.sets s) refl is
  where
    go : (set : Option TargetParts) → slice_get graph.sets s ≡ set → slice_get (targets_of set).callees k ≡ Some n → s < length graph.sets
    go None e off = let none : ◌≡◌ {A = Option MethodNo} None (Some n) = off in cc
    go (Some set) e at = slice_get_within graph.sets s set e

module _ (app : AppParts) (graph : GraphParts) (fits : FitsCode app graph) where
  pub use_within : (m i s : ℕ) → use_at graph m i ≡ Some (Some s) → i < code_len app m
  use_within m i s is = let lt = use_in_row graph m i (Some s) is in let e = fits.rows m in omega arith

  pub user_within : (m i s : ℕ) → use_at graph m i ≡ Some (Some s) → m < length app.methods
  user_within m i s is = let lt = row_in graph m i (use_in_row graph m i (Some s) is) in let e = fits.methods in omega arith

  pub callee_within : (s k : ℕ) (n : MethodNo) → slice_get (callees_of graph s) k ≡ Some n → n.0 < length app.methods
  callee_within s k n is = go (slice_get graph.sets s) refl is
    where
      go : (set : Option TargetParts) → slice_get graph.sets s ≡ set → slice_get (targets_of set).callees k ≡ Some n → n.0 < length app.methods
      go None e off = let none : ◌≡◌ {A = Option MethodNo} None (Some n) = off in cc
      go (Some set) e found =
          let all : All (λ (n : MethodNo). n.0 < length app.methods) set.callees = subst (λ (set : TargetParts). All (λ (n : MethodNo). n.0 < length app.methods) set.callees) (get_or_from_slice_get graph.sets s set set e) (fits.callees s set (slice_get_within graph.sets s set e)) in
          let at = get_or_from_slice_get set.callees k n n found in
          subst (λ (n : MethodNo). n.0 < length app.methods) at (all k n (slice_get_within set.callees k n found))

  module _ (way : Way) where
    pub uses_whole : (m bound : ℕ) (a b : List Link) → code_len app m ≤ bound → Adds (Before (UsesAt graph way (length app.methods) m) bound) a b → Adds (UsesIn graph way (length app.methods) m) a b
    uses_whole m bound a b le = adds_whole (UsesAt graph way (length app.methods) m) bound a b (λ i link t. let lt = use_within m i t.0 t.1 in omega arith)

    pub all_uses_whole : (bound : ℕ) (a b : List Link) → length app.methods ≤ bound → Adds (Before (UsesIn graph way (length app.methods)) bound) a b → Adds (Uses graph way (length app.methods)) a b
    all_uses_whole bound a b le = adds_whole (UsesIn graph way (length app.methods)) bound a b (λ m link t. let lt = user_within m t.0 t.1.0 t.1.1 in omega arith)

    between : IsGraph graph → (caller callee : ℕ) → caller < length app.methods + length graph.sets → callee < length app.methods + length graph.sets → (link : Link) → link ≡ link_by way caller callee → IsWithin (length app.methods + length graph.sets) link
    between sound caller callee low high link is = rw is (by way)
      where
        by : (w : Way) → IsWithin (length app.methods + length graph.sets) (link_by w caller callee)
        by ToCallees = (low, high)
        by ToCallers = (high, low)

    pub links_within : (links : List Link) → IsGraph graph → AreLinks graph way (length app.methods) links → AreWithin (length app.methods + length graph.sets) links
    links_within links sound are link among = ⊎_elim
        (λ (t : Uses graph way (length app.methods) link). (let m = user_within t.0 t.1.0 t.1.1.0 t.1.1.1 in let s = sound.uses t.0 t.1.0 t.1.1.0 t.1.1.1 in
        between sound t.0 (length app.methods + t.1.1.0) (omega arith) (omega arith) link t.1.1.2))
        (λ (t : Haves graph way (length app.methods) link). (let n = callee_within t.0 t.1.0 t.1.1.0 t.1.1.1 in let s = callees_within graph t.0 t.1.0 t.1.1.0 t.1.1.1 in
        between sound (length app.methods + t.0) t.1.1.0.0 (omega arith) (omega arith) link t.1.1.2))
        (are.only link among)

pub has_whole : (graph : GraphParts) (way : Way) (methods s bound : ℕ) (a b : List Link) → length (callees_of graph s) ≤ bound → Adds (Before (HasAt graph way methods s) bound) a b → Adds (HasIn graph way methods s) a b
has_whole graph way methods s bound a b le = adds_whole (HasAt graph way methods s) bound a b (λ k link t. let lt = slice_get_within (callees_of graph s) k t.0 t.1 in omega arith)

pub haves_whole : (graph : GraphParts) (way : Way) (methods bound : ℕ) (a b : List Link) → length graph.sets ≤ bound → Adds (Before (HasIn graph way methods) bound) a b → Adds (Haves graph way methods) a b
haves_whole graph way methods bound a b le = adds_whole (HasIn graph way methods) bound a b (λ s link t. let lt = callees_within graph s t.0 t.1.0 t.1.1 in omega arith)

pub both_kinds : (graph : GraphParts) (way : Way) (methods : ℕ) (a b c : List Link) → a ≡ [] → Adds (Uses graph way methods) a b → Adds (Haves graph way methods) b c → AreLinks graph way methods c
both_kinds graph way methods a b c none f g = record {
  only = λ link h. ⊎_elim (λ before. ⊎_elim (λ old. absurd (let o : Contains [] link = rw none at old in omega (arith, o.1))) (λ u. inl u) (f.only link before)) (λ has. inr has) (g.only link h);
  uses = λ link t. g.kept link (f.all link t);
  has = g.all;
}
