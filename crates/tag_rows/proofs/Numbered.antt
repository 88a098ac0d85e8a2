-- The calls that make a lock, in order.
use Rattle.std.proofs.Common.{◌≡◌, ◌≢◌, ℕ, suc, ◌+◌, ◌<◌, List, [], ◌∷◌, ◌++◌, length, get_or, Bool, true, false, if◌then◌else◌, Some, refl, sym, ap, ◌∙◌, subst, ⊎_elim, arith, Contains}
use Rattle.std.specs.Prelude.{slice_get}
use Rattle.std.proofs.lemmas.Bool.{cases_eq, cases_lt, false≢true}
use Rattle.std.proofs.lemmas.List.{get_or_append_left, get_or_push, length_push}
use Rattle.std.proofs.lemmas.List.Elements.{Contains-append_left, Contains-push}
use Rattle.std.proofs.lemmas.Option.{get_or_from_slice_get, slice_get-get_or, slice_get_within}
use Rattle.app_model.specs.LockUse.{lock_use_at}
use Rattle.app_model.specs.Parts.{AppParts}
use Rattle.app_model.specs.Sites.{is_make, site_at, sites_below, sites_in}
use Rattle.app_model.specs.Words.{code_len}
use Rattle.tag_rows.specs.declared.sites.Site.{Site}
use Rattle.tag_rows.specs.Sites.{AreSites, AreSitesBefore}

abbrev pub site : (m i : ℕ) → Site
site m i = record { method = record { 0 = m }; index = i }

sites_in_more : (app : AppParts) (m i : ℕ) → sites_in app m (i + 1) ≡ sites_in app m i + (if is_make (lock_use_at app m i) then 1 else 0)
sites_in_more app m i = let e : i + 1 ≡ suc i = omega arith in rw e refl

sites_below_more : (app : AppParts) (m : ℕ) → sites_below app (m + 1) ≡ sites_below app m + sites_in app m (code_len app m)
sites_below_more app m = let e : m + 1 ≡ suc m = omega arith in rw e refl

pub sites_none : (app : AppParts) → AreSitesBefore app 0 0 []
sites_none app = record { earlier = λ n j lt. absurd (omega (arith, lt)); here = λ j lt. absurd (omega (arith, lt)); only = λ n s e. absurd (let lt = slice_get_within [] n s e in omega (arith, lt)); len = refl }

pub sites_skip : (app : AppParts) (m i : ℕ) (sites : List Site) → is_make (lock_use_at app m i) ≡ false → AreSitesBefore app m i sites → AreSitesBefore app m (i + 1) sites
sites_skip app m i sites off are = record {
  earlier = are.earlier;
  here = λ j lt makes. ⊎_elim (λ is. absurd (false≢true (sym off ∙ subst (λ n. is_make (lock_use_at app m n) ≡ true) is makes))) (λ ne. are.here j (omega (arith, lt, ne)) makes) (cases_eq j i);
  only = are.only;
  len = are.len ∙ (let more : sites_in app m (i + 1) ≡ sites_in app m i + 0 = sites_in_more app m i ∙ ap (λ (b : Bool). sites_in app m i + (if b then 1 else 0)) off in omega (arith, more));
}

pub sites_push : (app : AppParts) (m i : ℕ) (sites : List Site) → is_make (lock_use_at app m i) ≡ true → AreSitesBefore app m i sites → AreSitesBefore app m (i + 1) (sites ++ site m i ∷ [])
sites_push app m i sites on are = record {
  earlier = λ n j low lt makes. Contains-append_left sites (site m i ∷ []) (site n j) (are.earlier n j low lt makes);
  here = λ j lt makes. ⊎_elim
      (λ is. subst (λ n. Contains (sites ++ site m i ∷ []) (site m n)) (sym is) (Contains-push sites (site m i)))
      (λ ne. Contains-append_left sites (site m i ∷ []) (site m j) (are.here j (omega (arith, lt, ne)) makes)) (cases_eq j i);
  only = λ n s e. only n s e;
  len = length_push sites (site m i) ∙ (let before = are.len in let more : sites_in app m (i + 1) ≡ sites_in app m i + 1 = sites_in_more app m i ∙ ap (λ (b : Bool). sites_in app m i + (if b then 1 else 0)) on in omega (arith, before, more));
}
  where
    only : (n : ℕ) (s : Site) → slice_get (sites ++ site m i ∷ []) n ≡ Some s → n ≡ site_at app s.method.0 s.index
    only n s e =
        let lt = slice_get_within (sites ++ site m i ∷ []) n s e in
        let read = get_or_from_slice_get (sites ++ site m i ∷ []) n s s e in
        ⊎_elim
        (λ less. are.only n s (slice_get-get_or sites n s less ∙ ap Some (sym (get_or_append_left sites (site m i ∷ []) s n less) ∙ read)))
        (λ le. (let at : length sites ≡ n = omega (arith, lt, le, length_push sites (site m i)) in
        let is : site m i ≡ s = sym (get_or_push sites (site m i) s n at) ∙ read in
        sym at ∙ are.len ∙ ap (λ (one : Site). site_at app one.method.0 one.index) is))
        (cases_lt n (length sites))

pub sites_next : (app : AppParts) (m i : ℕ) (sites : List Site) → i ≡ code_len app m → AreSitesBefore app m i sites → AreSitesBefore app (m + 1) 0 sites
sites_next app m i sites end are = record {
  earlier = λ n j low lt makes. ⊎_elim
      (λ is. subst (λ n. Contains sites (site n j)) (sym is) (are.here j (let same = ap (code_len app) is in omega (arith, lt, end, same)) (subst (λ n. is_make (lock_use_at app n j) ≡ true) is makes)))
      (λ ne. are.earlier n j (omega (arith, low, ne)) lt makes) (cases_eq n m);
  here = λ j lt. absurd (omega (arith, lt));
  only = are.only;
  len = are.len ∙ ap (λ n. sites_below app m + sites_in app m n) end ∙ (let more = sites_below_more app m in omega (arith, more));
}

pub sites_whole : (app : AppParts) (m : ℕ) (sites : List Site) → m ≡ length app.methods → AreSitesBefore app m 0 sites → AreSites app sites
sites_whole app m sites end are = record { all = λ n j low lt makes. are.earlier n j (omega (arith, low, end)) lt makes; only = are.only }

-- ---- a search
pub site_found : (app : AppParts) (sites : List Site) (n m i : ℕ) (one : Site) → AreSites app sites → n < length sites → one ≡ get_or sites n one → one.method.0 ≡ m → one.index ≡ i → n ≡ site_at app m i
site_found app sites n m i one are lt read em ei =
    are.only n one (slice_get-get_or sites n one lt ∙ ap Some (sym read)) ∙ ap (λ x. site_at app x one.index) em ∙ ap (site_at app m) ei

pub site_missed : (app : AppParts) (sites : List Site) (m i : ℕ) → AreSites app sites → m < length app.methods → i < code_len app m → is_make (lock_use_at app m i) ≡ true
    → ((n : ℕ) → n < length sites → (d : Site) → get_or sites n d ≢ site m i) → ⊥
site_missed app sites m i are low lt makes none = let there = are.all m i low lt makes in none there.0 there.1 (site m i) there.2
