-- What one link does to the words.
use Rattle.std.proofs.Common.{◌≡◌, ◌≢◌, ℕ, ◌^◌, ◌<◌, List, true, false, length, get_or, set, refl, sym, subst, inl, inr, ⊎_elim, arith, length-set, bit_or, Contains}
use Rattle.std.specs.Prelude.{◌⊎◌}
use Rattle.std.specs.Int.{bit_at}
use Rattle.std.proofs.lemmas.Bool.{cases_eq, true≢false, false≢true}
use Rattle.std.proofs.lemmas.List.{get_or-set_same, get_or-set_other}
use Rattle.std.proofs.lemmas.List.Sums.{sum_by-set}
use Rattle.std.proofs.lemmas.Nat.{le_or_l}
use Rattle.std.proofs.lemmas.Nat.Bits.{bit_at_or, bit_at-lt}
use Rattle.call_reach.specs.declared.links.Link.{Link}
use Rattle.call_reach.specs.Spread.{Has, Spreads, begins, goes_on, IsPassed, IsWithin, Turn, room, word_room}
use Rattle.call_reach.proofs.Turns.{keeps_none}

-- a bit of two words joined
pub or_bit : (a b i : ℕ) → bit_at (bit_or a b) i ≡ 1 → (bit_at a i ≡ 1) ⊎ (bit_at b i ≡ 1)
or_bit a b i e =
    let h = bit_at_or a b i in
    let x = bit_at-lt a i in
    let y = bit_at-lt b i in
    ⊎_elim inl (λ ne. inr (omega arith)) (cases_eq (bit_at a i) 1)

pub or_left : (a b i : ℕ) → bit_at a i ≡ 1 → bit_at (bit_or a b) i ≡ 1
or_left a b i e =
    let h = bit_at_or a b i in
    let x = bit_at-lt a i in
    let y = bit_at-lt b i in
    omega arith

pub or_right : (a b i : ℕ) → bit_at b i ≡ 1 → bit_at (bit_or a b) i ≡ 1
or_right a b i e =
    let h = bit_at_or a b i in
    let x = bit_at-lt a i in
    let y = bit_at-lt b i in
    omega arith

module _ (words : List ℕ) (link : Link) (within : IsWithin (length words) link) where
  abbrev from_word : ℕ
  from_word = get_or words link.from 0

  abbrev to_word : ℕ
  to_word = get_or words link.to 0

  abbrev joined : ℕ
  joined = bit_or to_word from_word

  pub pass_none : (links : List Link) → joined ≡ to_word → Turn links (IsPassed link) words words false
  pass_none links is = record {
    keeps = keeps_none links words;
    same = λ e. refl;
    falls = λ e. absurd (false≢true e);
    done = λ e bit h. rw is at (or_right to_word from_word bit h);
  }

  put_same : get_or (set words link.to joined) link.to 0 ≡ joined
  put_same = get_or-set_same words link.to joined 0 within.1

  put_other : (n : ℕ) → n ≢ link.to → get_or (set words link.to joined) n 0 ≡ get_or words n 0
  put_other n ne = get_or-set_other words link.to n joined 0 ne

  new_bit : (links : List Link) → Contains links link → (n bit : ℕ) → Has (set words link.to joined) n bit → Spreads links (λ (m : ℕ). Has words m bit) n
  new_bit links among n bit h = ⊎_elim
      (λ here. (let there : Has (set words link.to joined) link.to bit = subst (λ (m : ℕ). Has (set words link.to joined) m bit) here h in
      let one : bit_at joined bit ≡ 1 = subst (λ (w : ℕ). bit_at w bit ≡ 1) put_same there in
      let reached : Spreads links (λ (m : ℕ). Has words m bit) link.to = ⊎_elim (λ old. begins old) (λ new. goes_on link among (begins new)) (or_bit to_word from_word bit one) in
      subst (Spreads links (λ (m : ℕ). Has words m bit)) (sym here) reached))
      (λ ne. begins (subst (λ (w : ℕ). bit_at w bit ≡ 1) (put_other n ne) h)) (cases_eq n link.to)

  old_bit : (n bit : ℕ) → Has words n bit → Has (set words link.to joined) n bit
  old_bit n bit h = ⊎_elim
      (λ here. (let there : Has words link.to bit = subst (λ (m : ℕ). Has words m bit) here h in
      let one : bit_at joined bit ≡ 1 = or_left to_word from_word bit there in
      subst (λ (m : ℕ). Has (set words link.to joined) m bit) (sym here) (subst (λ (w : ℕ). bit_at w bit ≡ 1) (sym put_same) one)))
      (λ ne. subst (λ (w : ℕ). bit_at w bit ≡ 1) (sym (put_other n ne)) h) (cases_eq n link.to)

  put_falls : to_word < 2 ^ 64 → joined ≢ to_word → room (set words link.to joined) < room words
  unfolding room
  put_falls fits ne = let inner = sum_by-set word_room words link.to joined 0 within.1 in let le = le_or_l to_word from_word in omega arith

  pub pass_put : (links : List Link) → Contains links link → to_word < 2 ^ 64 → joined ≢ to_word → Turn links (IsPassed link) words (set words link.to joined) true
  pass_put links among fits ne = record {
    keeps = record { spreads = new_bit links among; kept = old_bit; len = length-set words link.to joined };
    same = λ e. absurd (true≢false e);
    falls = λ e. put_falls fits ne;
    done = λ e. absurd (true≢false e);
  }
