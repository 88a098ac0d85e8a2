-- A body stays one where the types of its instructions get other numbers.
use Rattle.std.proofs.Common.{◌≡◌, ◌<◌, ◌^◌, ℕ, suc, List, [], ◌∷◌, length, map, AllPairs, All, refl, sym, subst, arith}
use Rattle.std.proofs.lemmas.List.{length-map}
use Rattle.std.proofs.lemmas.List.Elements.{All-map}
use Rattle.std.proofs.lemmas.List.Kept.{AllPairs-cons}
use Rattle.dalvik.specs.declared.ins.Ins.{Ins}
use Rattle.dalvik.specs.declared.ins.Ins.TheVariants as ins
use Rattle.dalvik.specs.declared.body.Place.{Place}
use Rattle.dalvik.specs.Registers.{registers_of}
use Rattle.dalvik.specs.Body.{IsBody, IsSoundPlace, IsSuccessorCount}
use Rattle.app_rows.specs.Linked.{Rows, linked_ins, linked_place}

-- both compute at each instruction
registers-linked : (rows : Rows) (i : Ins) → registers_of (linked_ins rows i) ≡ registers_of i
unfolding linked_ins registers_of
registers-linked rows ins.Nop = refl
registers-linked rows other = refl

count-linked : (rows : Rows) (i : Ins) (n : ℕ) → IsSuccessorCount i n → IsSuccessorCount (linked_ins rows i) n
unfolding linked_ins
count-linked rows ins.Nop n h = h
count-linked rows other n h = h

place-linked : (rows : Rows) (registers count : ℕ) (place : Place) → IsSoundPlace registers count place → IsSoundPlace registers count (linked_place rows place)
place-linked rows registers count place h = record {
  named = subst (λ rs. All (λ r. r < registers) rs) (sym (registers-linked rows place.ins)) h.named;
  successors = h.successors;
  handlers = h.handlers;
  successor_count = count-linked rows place.ins (length place.successors) h.successor_count;
  successor_limit = h.successor_limit;
  handler_limit = h.handler_limit;
  leaves = h.leaves;
}

rising-linked : (rows : Rows) (places : List Place) → AllPairs (λ (a b : Place). a.pc < b.pc) places
    → AllPairs (λ (a b : Place). a.pc < b.pc) (map (linked_place rows) places)
rising-linked rows [] h = λ i j d lt below. absurd (omega arith)
rising-linked rows (p ∷ ps) h =
    AllPairs-cons (λ (a b : Place). a.pc < b.pc) (linked_place rows p) (map (linked_place rows) ps)
    (All-map (λ (q : Place). p.pc < q.pc) (linked_place rows) ps (λ k d lt. h 0 (suc k) d (omega arith) (omega arith)))
    (rising-linked rows ps (λ i j d lt below. h (suc i) (suc j) d (omega arith) (omega arith)))

each-linked : (rows : Rows) (registers count : ℕ) (places : List Place) → All (λ place. IsSoundPlace registers count place) places
    → All (λ place. IsSoundPlace registers count place) (map (linked_place rows) places)
each-linked rows registers count places h =
    All-map (λ place. IsSoundPlace registers count place) (linked_place rows) places (λ k d lt. place-linked rows registers count _ (h k d lt))

pub body-linked : (rows : Rows) (registers : ℕ) (places : List Place) → IsBody registers places → IsBody registers (map (linked_place rows) places)
body-linked rows registers places h = record {
  limit = subst (λ n. n < 2 ^ 32) (sym (length-map places (linked_place rows))) h.limit;
  rising = rising-linked rows places h.rising;
  each = subst (λ n. All (λ place. IsSoundPlace registers n place) (map (linked_place rows) places)) (sym (length-map places (linked_place rows)))
      (each-linked rows registers (length places) places h.each);
}

pub moved : (rows : Rows) (registers same : ℕ) (old new : List Place) → same ≡ registers → new ≡ map (linked_place rows) old → IsBody registers old → IsBody same new
moved rows registers same old new keeps are h = subst (λ r. IsBody r new) (sym keeps) (subst (IsBody registers) (sym are) (body-linked rows registers old h))
