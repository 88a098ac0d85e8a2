-- Parts of the work, one after another.
use Rattle.std.proofs.Common.{◌≡◌, ℕ, ◌+◌, ◌*◌, ◌≤◌, ◌<◌, ◌||◌, ◌++◌, ◌∷◌, [], Bool, true, false, cond, List, refl, sym, ap, ◌∙◌, subst, ⊎_elim, arith, Contains, length, get_or, slice_get, Some}
use Rattle.std.proofs.lemmas.Bool.{or_parts, or_cases, cases_Bool, cases_lt, false≢true}
use Rattle.std.proofs.lemmas.List.Elements.{Contains-push_cases}
use Rattle.std.proofs.lemmas.Option.{get_or_from_slice_get, slice_get_within}
use Rattle.call_reach.specs.declared.links.Link.{Link}
use Rattle.call_reach.specs.Spread.{AreWithin, Has, IsWithin, Spreads, begins, goes_on, Keeps, Turn, IsPassed, AllPassed, PassedBelow, IsSpread, room}

pub contains_at : (links : List Link) (i : ℕ) (link : Link) → slice_get links i ≡ Some link → Contains links link
contains_at links i link is = (i, slice_get_within links i link is, get_or_from_slice_get links i link link is)

pub within_more : (nodes : ℕ) (links : List Link) (one : Link) → AreWithin nodes links → IsWithin nodes one → AreWithin nodes (links ++ one ∷ [])
within_more nodes links one before this link among = ⊎_elim (λ old. before link old) (λ is. subst (IsWithin nodes) is this) (Contains-push_cases links one link among)

-- the words stay as many
pub within_still : (links : List Link) (a b : List ℕ) (i : ℕ) (link : Link) → AreWithin (length a) links → length b ≡ length a → slice_get links i ≡ Some link → IsWithin (length b) link
within_still links a b i link within len is = rw len (within link (contains_at links i link is))

module _ (links : List Link) where
  pub spread_on : (first then : ℕ → Type 0) → ((n : ℕ) → first n → Spreads links then n) → (n : ℕ) → Spreads links first n → Spreads links then n
  spread_on first then why n (begins s) = why n s
  spread_on first then why n (goes_on link among rest) = goes_on link among (spread_on first then why link.from rest)

  pub keeps_none : (words : List ℕ) → Keeps links words words
  keeps_none words = record { spreads = λ n b h. begins h; kept = λ n b h. h; len = refl }

  pub keeps_more : (a b c : List ℕ) → Keeps links a b → Keeps links b c → Keeps links a c
  keeps_more a b c k l = record {
    spreads = λ n bit h. spread_on (λ (m : ℕ). Has b m bit) (λ (m : ℕ). Has a m bit) (λ m g. k.spreads m bit g) n (l.spreads n bit h);
    kept = λ n bit h. l.kept n bit (k.kept n bit h);
    len = l.len ∙ k.len;
  }

  room_le : (goal : List ℕ → Type 0) (a b : List ℕ) (x : Bool) → Turn links goal a b x → room b ≤ room a
  room_le goal a b x t = ⊎_elim (λ on. let l = t.falls on in omega arith) (λ off. let e = ap room (t.same off) in omega arith) (cases_Bool x)

  pub turn_none : (words : List ℕ) → Turn links (PassedBelow links 0) words words false
  turn_none words = record {
    keeps = keeps_none words;
    same = λ e. refl;
    falls = λ e. absurd (false≢true e);
    done = λ e k link within. absurd (omega (arith, within));
  }

  pub turn_more : (i : ℕ) (link : Link) (a b c : List ℕ) (x y : Bool) → slice_get links i ≡ Some link
      → Turn links (PassedBelow links i) a b x → Turn links (IsPassed link) b c y → Turn links (PassedBelow links (i + 1)) a c (x || y)
  turn_more i link a b c x y is t u = record {
    keeps = keeps_more a b c t.keeps u.keeps;
    same = λ e. (let h = or_parts x y e in u.same h.1 ∙ t.same h.0);
    falls = λ e. ⊎_elim (λ on. (let l = t.falls on in let m = room_le (IsPassed link) b c y u in omega arith)) (λ on. (let l = u.falls on in let m = room_le (PassedBelow links i) a b x t in omega arith)) (or_cases x y e);
    done = λ e. (let h = or_parts x y e in
        λ k other below read. ⊎_elim
        (λ less. subst (λ (words : List ℕ). IsPassed other words) (sym (u.same h.1)) (t.done h.0 k other less read))
        (λ le. (let here : k ≡ i = omega (arith, le, below) in
        let same : other ≡ link = sym read ∙ ap (λ (n : ℕ). get_or links n other) here ∙ get_or_from_slice_get links i link other is in
        subst (λ (l : Link). IsPassed l c) (sym same) (u.done h.1)))
        (cases_lt k i));
  }

  pub turn_whole : (i : ℕ) (a b : List ℕ) (x : Bool) → length links ≤ i → Turn links (PassedBelow links i) a b x → Turn links (AllPassed links) a b x
  turn_whole i a b x le t = record {
    keeps = t.keeps;
    same = t.same;
    falls = t.falls;
    done = λ e link among. t.done e among.0 link (omega (arith, le, among.1)) among.2;
  }

  -- where a sweep changes nothing, all bits are there
  closed : (words : List ℕ) (bit : ℕ) (start : ℕ → Type 0) → AllPassed links words → ((n : ℕ) → start n → Has words n bit) → (n : ℕ) → Spreads links start n → Has words n bit
  closed words bit start all first n (begins s) = first n s
  closed words bit start all first n (goes_on link among rest) = all link among bit (closed words bit start all first link.from rest)

  pub is_spread : (a b : List ℕ) → Keeps links a b → AllPassed links b → IsSpread links a b
  is_spread a b k all = record {
    exact = λ n bit. (k.spreads n bit, closed b bit (λ (m : ℕ). Has a m bit) all (λ m h. k.kept m bit h) n);
    len = k.len;
  }

  pub spread_after : (a b c : List ℕ) → Keeps links a b → IsSpread links b c → IsSpread links a c
  spread_after a b c k s = record {
    exact = λ n bit. (
      λ h. spread_on (λ (m : ℕ). Has b m bit) (λ (m : ℕ). Has a m bit) (λ m g. k.spreads m bit g) n ((s.exact n bit).0 h),
      λ h. (s.exact n bit).1 (spread_on (λ (m : ℕ). Has a m bit) (λ (m : ℕ). Has b m bit) (λ m g. begins (k.kept m bit g)) n h),
    );
    len = s.len ∙ k.len;
  }

  pub turn_falls : (goal : List ℕ → Type 0) (a b : List ℕ) (x : Bool) → Turn links goal a b x → 2 * room b + cond x 1 0 < 2 * room a + 1
  turn_falls goal a b true t = let l = t.falls refl in omega arith
  turn_falls goal a b false t = let e = t.same refl in rw e (omega arith)
