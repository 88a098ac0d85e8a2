-- Threads, by the few types that are threads themselves.
use Rattle.std.proofs.Common.{◌≡◌, ℕ, ◌+◌, ◌<◌, ◌≤◌, ◌∷◌, [], ◌++◌, Bool, true, false, List, length, get_or, refl, sym, ap, ◌∙◌, subst, ⊎_elim, arith, bytes_eq, Contains}
use Rattle.std.specs.Prelude.{◌&&◌}
use Rattle.std.specs.List.{list_any}
use Rattle.std.proofs.lemmas.Bool.{cases_lt, true≢false}
use Rattle.std.proofs.lemmas.List.Elements.{Contains-get_or, Contains-push, Contains-push_cases, Contains-append_left}
use Rattle.ns_base.specs.declared.rows.TypeNo.{TypeNo}
use Rattle.app_model.specs.Hierarchy.{is_sub}
use Rattle.app_model.specs.Masks.{any_below}
use Rattle.app_model.specs.Names.{type_text}
use Rattle.app_model.specs.Parts.{AppParts}
use Rattle.flow_model.specs.Breaks.{is_thread, thread_names}
use Rattle.flow_model.proofs.TestLaws.{below_some, some_below}
use Rattle.scope_facts.specs.Texts.{AreThreads, is_thread_name}

abbrev is_above : AppParts → (t u : ℕ) → Bool
is_above app t u = list_any (bytes_eq (type_text app u)) thread_names && is_sub app t u

pub both : (a b : Bool) → (a && b) ≡ true → (a ≡ true) × (b ≡ true)
both true b is = (refl, is)
both false b is = absurd (true≢false (sym is))

pub and_true : (a b : Bool) → a ≡ true → b ≡ true → (a && b) ≡ true
and_true true b one two = two
and_true false b one two = one

pub thread_found : (app : AppParts) (threads : List TypeNo) (t k : ℕ) (d : TypeNo) → AreThreads app (length app.types) threads → k < length threads → is_sub app t (get_or threads k d).0 ≡ true → true ≡ is_thread app t
unfolding is_thread is_thread_name
thread_found app threads t k d are low sub =
    let one : TypeNo = get_or threads k d in
    let is = are.only one (Contains-get_or threads k d low) in
    sym (below_some (is_above app t) (length app.types) one.0 is.0 (and_true _ _ is.1 sub))

pub no_thread : (app : AppParts) (threads : List TypeNo) (t i : ℕ) → AreThreads app (length app.types) threads → length threads ≤ i → ((k : ℕ) (d : TypeNo) → k < i → is_sub app t (get_or threads k d).0 ≡ false) → false ≡ is_thread app t
unfolding is_thread is_thread_name
no_thread app threads t i are whole none = go (any_below (is_above app t) (length app.types)) refl
  where
    go : (b : Bool) → any_below (is_above app t) (length app.types) ≡ b → false ≡ any_below (is_above app t) (length app.types)
    go false is = sym is
    go true is =
        let u = some_below (is_above app t) (length app.types) is in
        let p = both _ _ u.2 in
        let at = are.all u.0 u.1 p.0 in
        let no = none at.0 (record { 0 = u.0 }) (omega (arith, at.1, whole)) in
        let yes : is_sub app t (get_or threads at.0 (record { 0 = u.0 })).0 ≡ true = rw at.2 p.1 in
        absurd (true≢false (sym yes ∙ no))

pub no_threads : (app : AppParts) → AreThreads app 0 []
no_threads app = record { only = λ t among. absurd (omega (arith, among.1)); all = λ t low. absurd (omega (arith, low)) }

pub one_thread_more : (app : AppParts) (n : ℕ) (threads : List TypeNo) → AreThreads app n threads → is_thread_name (type_text app n) ≡ true → AreThreads app (n + 1) (threads ++ record { 0 = n } ∷ [])
one_thread_more app n threads are is = record {
  only = λ t among. ⊎_elim
      (λ old. (let h = are.only t old in (omega (arith, h.0), h.1)))
      (λ new. subst (λ (u : TypeNo). (u.0 < n + 1) × (is_thread_name (type_text app u.0) ≡ true)) new (omega arith, is))
      (Contains-push_cases threads (record { 0 = n }) t among);
  all = λ t low named. ⊎_elim
      (λ less. Contains-append_left threads (record { 0 = n } ∷ []) (record { 0 = t }) (are.all t less named))
      (λ le. (let same : n ≡ t = omega (arith, le, low) in subst (λ (k : ℕ). Contains (threads ++ record { 0 = n } ∷ []) (record { 0 = k })) same (Contains-push threads (record { 0 = n }))))
      (cases_lt t n);
}

pub no_thread_more : (app : AppParts) (n : ℕ) (threads : List TypeNo) → AreThreads app n threads → is_thread_name (type_text app n) ≡ false → AreThreads app (n + 1) threads
no_thread_more app n threads are none = record {
  only = λ t among. (let h = are.only t among in (omega (arith, h.0), h.1));
  all = λ t low named. ⊎_elim (λ less. are.all t less named)
      (λ le. absurd (let same : t ≡ n = omega (arith, le, low) in true≢false (sym named ∙ ap (λ (k : ℕ). is_thread_name (type_text app k)) same ∙ none))) (cases_lt t n);
}
