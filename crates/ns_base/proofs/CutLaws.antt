-- Laws of a block that is cut into lists; at the end those that a crate that goes over `Lists` names in its `using`.
use Rattle.std.proofs.Common.{◌≡◌, ℕ, zero, suc, ◌+◌, ◌-◌, ◌<◌, ◌≤◌, List, [], ◌∷◌, ◌++◌, length, take, drop, append_assoc, Some, slice_get, slice_index, get_or, refl, sym, ap, ◌∙◌, arith}
use Rattle.std.proofs.lemmas.Grind.{common_steps}
use Rattle.std.proofs.lemmas.List.{take-append-le, drop-append-le, length-append}
use Rattle.ns_base.specs.Lists.{cut, AreEnds, start_at}

length_rest : {T : Type 0} (n : ℕ) (xs : List T) → n ≤ length xs → length (drop n xs) + n ≡ length xs
length_rest n xs h = grind (arith, common_steps)

rest_of_rest : {T : Type 0} (m n : ℕ) (xs : List T) → drop m (drop n xs) ≡ drop (n + m) xs
rest_of_rest m n xs = grind (arith, common_steps)

take_all : {T : Type 0} (n : ℕ) (xs : List T) → n ≡ length xs → take n xs ≡ xs
take_all n xs h = grind (arith, common_steps)

-- there are as many lists as ends
pub length_cut : {T : Type 0} (start : ℕ) (items : List T) (ends : List ℕ) → length (cut start items ends) ≡ length ends
length_cut start items [] = refl
length_cut start items (end ∷ ends) = ap suc (length_cut end (drop (end - start) items) ends)

-- a list that begins at `from` and ends at `to` lies in the block
pub record Bounds (start len from to : ℕ) : Type 0 where
  pub after : start ≤ from
  pub rising : from ≤ to
  pub within : to ≤ len

ends_within : (start : ℕ) (ends : List ℕ) (len : ℕ) → AreEnds start ends len → start ≤ len
ends_within start [] len h = omega (arith, h)
ends_within start (end ∷ ends) len h = omega (arith, h.0, ends_within end ends len h.1)

pub bounds : (start : ℕ) (ends : List ℕ) (len n : ℕ) → AreEnds start ends len → n < length ends → Bounds start len (start_at start ends n) (slice_index ends n)
bounds start [] len n h low = absurd (omega (arith, low))
bounds start (end ∷ ends) len zero h low = record { after = omega arith; rising = h.0; within = ends_within end ends len h.1 }
bounds start (end ∷ ends) len (suc n) h low =
    let more = bounds end ends len n h.1 (omega (arith, low)) in
    record { after = omega (arith, h.0, more.after); rising = more.rising; within = more.within }

-- the list of a number is what stands between its two places
pub cut_get : {T : Type 0} (start : ℕ) (items : List T) (ends : List ℕ) (len n : ℕ) → AreEnds start ends len → n < length ends
    → Some (take (slice_index ends n - start_at start ends n) (drop (start_at start ends n - start) items)) ≡ slice_get (cut start items ends) n
cut_get start items [] len n h low = absurd (omega (arith, low))
cut_get start items (end ∷ ends) len zero h low = let same : start - start ≡ 0 = omega arith in rw same refl
cut_get start items (end ∷ ends) len (suc n) h low =
    let more = bounds end ends len n h.1 (omega (arith, low)) in
    let same : start_at end ends n - start ≡ (end - start) + (start_at end ends n - end) = omega (arith, h.0, more.after) in
    rw (same, sym (rest_of_rest (start_at end ends n - end) (end - start) items)) (cut_get end (drop (end - start) items) ends len n h.1 (omega (arith, low)))

-- a list begins where the one before it ends
pub start_before : (start : ℕ) (ends : List ℕ) (n : ℕ) → 0 < n → n < length ends → slice_index ends (n - 1) ≡ start_at start ends n
start_before start [] n pos low = absurd (omega (arith, low))
start_before start (end ∷ ends) zero pos low = absurd (omega (arith, pos))
start_before start (end ∷ ends) (suc zero) pos low = refl
start_before start (end ∷ ends) (suc (suc n)) pos low =
    let e : suc (suc n) - 1 ≡ suc n = omega arith in
    let f : suc n - 1 ≡ n = omega arith in
    rw e (ap (slice_index ends) (sym f) ∙ start_before end ends (suc n) (omega arith) (omega (arith, low)))

ends_push : (start : ℕ) (ends : List ℕ) (len more to : ℕ) → AreEnds start ends len → to ≡ len + more → AreEnds start (ends ++ to ∷ []) to
ends_push start [] len more to h e = (omega (arith, h, e), refl)
ends_push start (end ∷ ends) len more to h e = (h.0, ends_push end ends len more to h.1 e)

-- where the rest of the block is empty, all that comes behind it is the new list
cut_none : {T : Type 0} (start : ℕ) (items list : List T) (to : ℕ) → length items ≡ 0 → to ≡ start + length list → take (to - start) (items ++ list) ≡ list
cut_none start [] list to none e = take_all (to - start) list (omega (arith, e))
cut_none start (y ∷ ys) list to none e = absurd (omega (arith, none))

cut_push : {T : Type 0} (start : ℕ) (items list : List T) (ends : List ℕ) (len to : ℕ) → AreEnds start ends len → start + length items ≡ len → to ≡ len + length list
    → cut start (items ++ list) (ends ++ to ∷ []) ≡ cut start items ends ++ list ∷ []
cut_push start items list [] len to h all e = ap (λ (l : List _). l ∷ []) (cut_none start items list to (omega (arith, h, all)) (omega (arith, h, e)))
cut_push start items list (end ∷ ends) len to h all e =
    let low : end - start ≤ length items = omega (arith, h.0, all, ends_within end ends len h.1) in
    let rest : end + length (drop (end - start) items) ≡ len = omega (arith, h.0, all, low, length_rest (end - start) items low) in
    rw (take-append-le (end - start) items list low, drop-append-le (end - start) items list low, cut_push end (drop (end - start) items) list ends len to h.1 rest e) refl

-- items behind a block, with the end of it all, are one list more
pub ends_grow : {T : Type 0} (items list : List T) (ends : List ℕ) → AreEnds 0 ends (length items) → AreEnds 0 (ends ++ (length items + length list) ∷ []) (length (items ++ list))
ends_grow items list ends h = rw (length-append items list) (ends_push 0 ends (length items) (length list) (length items + length list) h refl)

pub cut_grow : {T : Type 0} (items list : List T) (ends : List ℕ) → AreEnds 0 ends (length items) → cut 0 (items ++ list) (ends ++ (length items + length list) ∷ []) ≡ cut 0 items ends ++ list ∷ []
cut_grow items list ends h = cut_push 0 items list ends (length items) (length items + length list) h (omega arith) refl

-- an item that is there is the one of its number, whatever stands for one that is not
pub get_or_some : {T : Type 0} (xs : List T) (i : ℕ) (x none : T) → Some x ≡ slice_get xs i → x ≡ get_or xs i none
get_or_some [] i x none h = absurd cc
get_or_some (y ∷ ys) zero x none h = cc
get_or_some (y ∷ ys) (suc i) x none h = get_or_some ys i x none h

-- for a loop that copies the first items: one more of them
pub take_more : {T : Type 0} (xs : List T) (i : ℕ) (x : T) → slice_get xs i ≡ Some x → take (i + 1) xs ≡ take i xs ++ x ∷ []
take_more [] i x h = absurd cc
take_more (y ∷ ys) zero x h = cc
take_more (y ∷ ys) (suc i) x h = let e : suc i + 1 ≡ suc (i + 1) = omega arith in rw e (ap (λ (l : List _). y ∷ l) (take_more ys i x h))

-- for a loop that copies them behind what was there: one more of them
pub append_more : {T : Type 0} (to xs : List T) (i : ℕ) (x : T) → slice_get xs i ≡ Some x → (to ++ take i xs) ++ x ∷ [] ≡ to ++ take (i + 1) xs
append_more to xs i x h = rw (take_more xs i x h) (append_assoc to (take i xs) (x ∷ []))

-- for a loop that looks at each item: the one with which the rest begins
pub drop_item : {T : Type 0} (xs : List T) (i : ℕ) (x : T) → slice_get xs i ≡ Some x → drop i xs ≡ x ∷ drop (i + 1) xs
drop_item [] i x h = absurd cc
drop_item (y ∷ ys) zero x h = cc
drop_item (y ∷ ys) (suc i) x h = let e : suc i + 1 ≡ suc (i + 1) = omega arith in rw e (drop_item ys i x h)
