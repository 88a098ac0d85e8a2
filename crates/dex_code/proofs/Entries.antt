-- Class data that is read entry by entry is class data by offsets, and the other way round.
use Rattle.std.proofs.Common.{◌≡◌, ℕ, zero, suc, ◌+◌, ◌-◌, ◌*◌, ◌<◌, ◌≤◌, List, [], ◌∷◌, ◌++◌, length, slice_get, Bool, true, false, cond, nat_lt, Option, Some, None, Result, Ok, refl, sym, ap, subst, arith, ◌∙◌, length-append}
use Rattle.std.proofs.lemmas.Bool.{ltb-true, ltb-false, lt-ltb, le-ltb, eqb-false, ne_eqb}
use Rattle.std.proofs.lemmas.Slice.Eq.{bytes_eq-Decides}
use Rattle.ns_base.specs.Answers.{limit_of}
use Rattle.ns_base.specs.declared.answers.Counted.TheVariants.{Members}
use Rattle.dex_bytes.specs.declared.fault.DexFault.{DexFault}
use Rattle.dex_bytes.specs.declared.fault.DexFault.TheVariants.{MemberIndex, Limit}
use Rattle.dex_bytes.specs.Leb128.{uleb_at}
use Rattle.dex_bytes.specs.Places.{IsUleb, number_at, number_place}
use Rattle.dex_bytes.proofs.Leb.{uleb_at-ok, IsUleb-ok, number_place-next, number_at-place}
use Rattle.dex_tables.specs.Reading.{list_below}
use Rattle.dex_code.specs.declared.class_data.Kind.{Kind}
use Rattle.dex_code.specs.declared.class_data.Kind.TheVariants.{Field, Method}
use Rattle.dex_code.specs.declared.members.Member.{Member}
use Rattle.dex_code.specs.ClassData.{width_of, EntryList, entry_number, index_difference, entry_index, code_number, entry_of, row_count, IsOfClass, IsSoundEntry}
use Rattle.dex_code.specs.Reading.{index_after, repeats, is_of_class, is_own, last_id, code_offset_at, entry_at, with_entry, entries_at, ReadMembers}
use Rattle.dex_code.proofs.Ranges.{range_join, range_one, below_next, bind_ok, bind_by, else_ok, then_ok, ok_same, length-list_below}

-- number k of those behind p was read: its value, and the place of the next one
pub record IsRead (bs : List ℕ) (p k : ℕ) (r : ℕ × ℕ) : Type 0 where
  pub number : IsUleb bs (number_place bs p k)
  pub value : r.0 ≡ number_at bs p k
  pub next : r.1 ≡ number_place bs p (k + 1)

pub number_read : (bs : List ℕ) (p k : ℕ) (r : ℕ × ℕ) → uleb_at bs (number_place bs p k) ≡ Ok r → IsRead bs p k r
number_read bs p k r e =
    let pair = uleb_at-ok bs (number_place bs p k) r e in
    record {
      number = IsUleb-ok bs (number_place bs p k) r e;
      value = ap (λ (x : ℕ × ℕ). x.0) pair ∙ sym (number_at-place bs p k);
      next = ap (λ (x : ℕ × ℕ). x.1) pair ∙ sym (number_place-next bs p k);
    }

pub number_reads : (bs : List ℕ) (p k : ℕ) → IsUleb bs (number_place bs p k) → uleb_at bs (number_place bs p k) ≡ Ok (number_at bs p k, number_place bs p (k + 1))
unfolding IsUleb
number_reads bs p k there = rw (number_at-place bs p k, number_place-next bs p k) there

-- an entry that begins with number k, behind one with this index
pub record IsEntry (bs : List ℕ) (class p : ℕ) (kind : Kind) (prior : Option ℕ) (k : ℕ) (e : Member × ℕ) : Type 0 where
  pub numbers : (j : ℕ) → k ≤ j → j < k + width_of kind → IsUleb bs (number_place bs p j)
  pub own : is_own bs class kind prior (number_at bs p k) ≡ true
  pub member : e.0 ≡ record { id = index_after prior (number_at bs p k); flags = number_at bs p (k + 1); code = code_number bs p kind (k + 2) }
  pub place : e.1 ≡ number_place bs p (k + width_of kind)

-- the code offset of an entry that begins with number k
code_read : (bs : List ℕ) (p k : ℕ) (kind : Kind) (place : ℕ) (c : ℕ × ℕ) → place ≡ number_place bs p (k + 2) → code_offset_at bs kind place ≡ Ok c
    → ((j : ℕ) → k + 2 ≤ j → j < k + width_of kind → IsUleb bs (number_place bs p j)) × (c.0 ≡ code_number bs p kind (k + 2)) × (c.1 ≡ number_place bs p (k + width_of kind))
code_read bs p k Field place c at e =
    let pair : (0, place) ≡ c = cc in
    ((λ j from to. absurd (omega arith)), sym (ap (λ (x : ℕ × ℕ). x.0) pair), sym (ap (λ (x : ℕ × ℕ). x.1) pair) ∙ at)
code_read bs p k Method place c at e =
    let there : uleb_at bs (number_place bs p (k + 2)) ≡ Ok c = subst (λ (q : ℕ). uleb_at bs q ≡ Ok c) at e in
    let read = number_read bs p (k + 2) c there in
    let three : k + 2 + 1 ≡ k + 3 = omega arith in (
      (λ j from to. range_one (λ i. IsUleb bs (number_place bs p i)) (k + 2) read.number j from (omega arith)),
      read.value,
      read.next ∙ ap (number_place bs p) three,
    )

same_member : (a b c x y z : ℕ) → a ≡ x → b ≡ y → c ≡ z → ◌≡◌ {A = Member} (record { id = a; flags = b; code = c }) (record { id = x; flags = y; code = z })
same_member a b c x y z e f g = rw (e, f, g) refl

entry_made : (bs : List ℕ) (class p : ℕ) (kind : Kind) (prior : Option ℕ) (k : ℕ) (a b c : ℕ × ℕ) (e : Member × ℕ) → IsRead bs p k a → IsRead bs p (k + 1) b
    → ((j : ℕ) → k + 2 ≤ j → j < k + width_of kind → IsUleb bs (number_place bs p j)) → c.0 ≡ code_number bs p kind (k + 2) → c.1 ≡ number_place bs p (k + width_of kind)
    → is_own bs class kind prior a.0 ≡ true → ◌≡◌ {A = Member × ℕ} (record { id = index_after prior a.0; flags = b.0; code = c.0 }, c.1) e → IsEntry bs class p kind prior k e
entry_made bs class p kind prior k a b c e difference flags rest code place own is = record {
  numbers = range_join (λ j. IsUleb bs (number_place bs p j)) k (k + 1) (k + width_of kind)
      (range_one (λ j. IsUleb bs (number_place bs p j)) k difference.number)
      (range_join (λ j. IsUleb bs (number_place bs p j)) (k + 1) (k + 2) (k + width_of kind)
      (λ j from to. range_one (λ i. IsUleb bs (number_place bs p i)) (k + 1) flags.number j from (omega arith))
      rest);
  own = subst (λ (n : ℕ). is_own bs class kind prior n ≡ true) difference.value own;
  member = sym (ap (λ (x : Member × ℕ). x.0) is) ∙ same_member _ _ _ _ _ _ (ap (index_after prior) difference.value) flags.value code;
  place = sym (ap (λ (x : Member × ℕ). x.1) is) ∙ place;
}

-- what is read as an entry is one
pub entry_read : (bs : List ℕ) (class p : ℕ) (kind : Kind) (prior : Option ℕ) (k : ℕ) (e : Member × ℕ) → entry_at bs class kind prior (number_place bs p k) ≡ Ok e → IsEntry bs class p kind prior k e
unfolding entry_at
entry_read bs class p kind prior k e h =
    let a = bind_ok (uleb_at bs (number_place bs p k)) _ e h in
    let difference : IsRead bs p k a.0 = number_read bs p k a.0 a.1 in
    let b = bind_ok (uleb_at bs a.0.1) _ e a.2 in
    let flags : IsRead bs p (k + 1) b.0 = number_read bs p (k + 1) b.0 (subst (λ (q : ℕ). uleb_at bs q ≡ Ok b.0) difference.next b.1) in
    let c = bind_ok (code_offset_at bs kind b.0.1) _ e b.2 in
    let two : k + 1 + 1 ≡ k + 2 = omega arith in
    let code = code_read bs p k kind b.0.1 c.0 (flags.next ∙ ap (number_place bs p) two) c.1 in
    let d = then_ok (is_own bs class kind prior a.0.0) (MemberIndex (number_place bs p k)) _ e c.2 in
    entry_made bs class p kind prior k a.0 b.0 c.0 e difference flags code.0 code.1 code.2 d.0 (ok_same _ _ d.1)

code_reads : (bs : List ℕ) (p k : ℕ) (kind : Kind) → ((j : ℕ) → k ≤ j → j < k + width_of kind → IsUleb bs (number_place bs p j)) → code_offset_at bs kind (number_place bs p (k + 1 + 1)) ≡ Ok (code_number bs p kind (k + 2), number_place bs p (k + width_of kind))
code_reads bs p k Field numbers = let two : k + 1 + 1 ≡ k + 2 = omega arith in rw two refl
code_reads bs p k Method numbers =
    let two : k + 1 + 1 ≡ k + 2 = omega arith in
    let three : k + 2 + 1 ≡ k + 3 = omega arith in
    rw two (number_reads bs p (k + 2) (numbers (k + 2) (omega arith) (omega arith)) ∙ ap (λ (q : ℕ). Ok (number_at bs p (k + 2), number_place bs p q)) three)

width_more : (kind : Kind) → 1 < width_of kind
width_more Field = omega arith
width_more Method = omega arith

-- what is an entry is read as one
pub entry_reads : (bs : List ℕ) (class p : ℕ) (kind : Kind) (prior : Option ℕ) (k : ℕ) → ((j : ℕ) → k ≤ j → j < k + width_of kind → IsUleb bs (number_place bs p j)) → is_own bs class kind prior (number_at bs p k) ≡ true
    → entry_at bs class kind prior (number_place bs p k) ≡ Ok (record { id = index_after prior (number_at bs p k); flags = number_at bs p (k + 1); code = code_number bs p kind (k + 2) }, number_place bs p (k + width_of kind))
unfolding entry_at
entry_reads bs class p kind prior k numbers own =
    let first : uleb_at bs (number_place bs p k) ≡ Ok (number_at bs p k, number_place bs p (k + 1)) = number_reads bs p k (numbers k (omega arith) (omega (arith, width_more kind))) in
    let second : uleb_at bs (number_place bs p (k + 1)) ≡ Ok (number_at bs p (k + 1), number_place bs p (k + 1 + 1)) = number_reads bs p (k + 1) (numbers (k + 1) (omega arith) (omega (arith, width_more kind))) in
    let third = code_reads bs p k kind numbers in
    rw (first, second, third, own) refl

-- the index of the entry before entry n
pub prior_of : List ℕ → ℕ → EntryList → ℕ → Option ℕ
prior_of bs p l zero = None
prior_of bs p l (suc n) = Some (entry_index bs p l n)

slice_get_last : {T : Type 0} (xs : List T) (x : T) → slice_get (xs ++ x ∷ []) (length xs) ≡ Some x
slice_get_last [] x = refl
slice_get_last (y ∷ ys) x = slice_get_last ys x

last_id-pushed : (xs : List Member) (x : Member) → last_id (xs ++ x ∷ []) ≡ Some x.id
last_id-pushed xs x =
    let e : length (xs ++ x ∷ []) - 1 ≡ length xs = omega (arith, length-append xs (x ∷ [])) in
    rw (e, slice_get_last xs x) refl

pub last_id-below : (bs : List ℕ) (p : ℕ) (l : EntryList) (n : ℕ) → last_id (list_below (entry_of bs p l) n) ≡ prior_of bs p l n
unfolding prior_of
last_id-below bs p l zero = refl
last_id-below bs p l (suc n) = last_id-pushed (list_below (entry_of bs p l) n) (entry_of bs p l n)

pub index_after-prior : (bs : List ℕ) (p : ℕ) (l : EntryList) (n : ℕ) → index_after (prior_of bs p l n) (index_difference bs p l n) ≡ entry_index bs p l n
unfolding prior_of
index_after-prior bs p l zero = omega arith
index_after-prior bs p l (suc n) = refl

own_parts : (a r c : Bool) → cond a (cond r false c) false ≡ true → (a ≡ true) × (r ≡ false) × (c ≡ true)
own_parts true true c h = absurd (let no : ⊥ = cc in no)
own_parts true false c h = (refl, refl, h)
own_parts false r c h = absurd (let no : ⊥ = cc in no)

own_from : (a r c : Bool) → a ≡ true → r ≡ false → c ≡ true → cond a (cond r false c) false ≡ true
own_from a r c e f g = rw (e, f, g) refl

of_class : (bs : List ℕ) (class : ℕ) (kind : Kind) (i : ℕ) → is_of_class bs class kind i ≡ true → IsOfClass bs class kind i
unfolding is_of_class IsOfClass
of_class bs class kind i h = (bytes_eq-Decides _ _).0 h

class_of : (bs : List ℕ) (class : ℕ) (kind : Kind) (i : ℕ) → IsOfClass bs class kind i → is_of_class bs class kind i ≡ true
unfolding is_of_class IsOfClass
class_of bs class kind i h = (bytes_eq-Decides _ _).1 h

further_from : (bs : List ℕ) (p : ℕ) (l : EntryList) (n : ℕ) → repeats (prior_of bs p l n) (index_difference bs p l n) ≡ false → 0 < n → 0 < index_difference bs p l n
unfolding prior_of
further_from bs p l zero h some = absurd (omega arith)
further_from bs p l (suc n) h some = let ne = eqb-false (index_difference bs p l (suc n)) 0 h in omega (arith, ne)

further_is : (bs : List ℕ) (p : ℕ) (l : EntryList) (n : ℕ) → (0 < n → 0 < index_difference bs p l n) → repeats (prior_of bs p l n) (index_difference bs p l n) ≡ false
unfolding prior_of
further_is bs p l zero more = refl
further_is bs p l (suc n) more =
    let some : 0 < index_difference bs p l (suc n) = more (omega arith) in
    ne_eqb (index_difference bs p l (suc n)) 0 (omega arith)

pub sound_from_own : (bs : List ℕ) (class p : ℕ) (l : EntryList) (n : ℕ) → is_own bs class l.kind (prior_of bs p l n) (index_difference bs p l n) ≡ true → IsSoundEntry bs class p l n
sound_from_own bs class p l n h =
    let parts = own_parts _ _ _ h in
    let i = index_after-prior bs p l n in
    record {
      within = subst (λ (x : ℕ). x < row_count bs l.kind) i (ltb-true _ _ parts.0);
      further = further_from bs p l n parts.1;
      own = subst (IsOfClass bs class l.kind) i (of_class bs class l.kind _ parts.2);
    }

pub own_from_sound : (bs : List ℕ) (class p : ℕ) (l : EntryList) (n : ℕ) → IsSoundEntry bs class p l n → is_own bs class l.kind (prior_of bs p l n) (index_difference bs p l n) ≡ true
own_from_sound bs class p l n sound =
    let i = sym (index_after-prior bs p l n) in
    own_from _ _ _
    (lt-ltb _ _ (subst (λ (x : ℕ). x < row_count bs l.kind) i sound.within))
    (further_is bs p l n sound.further)
    (class_of bs class l.kind _ (subst (IsOfClass bs class l.kind) i sound.own))

-- the first n entries of a list were read, where so many members came before the list
pub record HasEntries (bs : List ℕ) (class p : ℕ) (l : EntryList) (before n : ℕ) (r : ReadMembers) : Type 0 where
  pub place : r.place ≡ number_place bs p (entry_number l n)
  pub members : r.members ≡ list_below (entry_of bs p l) n
  pub numbers : (k : ℕ) → l.first ≤ k → k < entry_number l n → IsUleb bs (number_place bs p k)
  pub sound : (i : ℕ) → i < n → IsSoundEntry bs class p l i
  pub limit : 0 < n → before + n ≤ limit_of Members

entry_number-zero : (l : EntryList) → entry_number l 0 ≡ l.first
entry_number-zero l = omega arith

next_number : (first n : ℕ) (kind : Kind) → first + width_of kind * suc n ≡ first + width_of kind * n + width_of kind
next_number first n Field = omega arith
next_number first n Method = omega arith

entry_number-next : (l : EntryList) (n : ℕ) → entry_number l (suc n) ≡ entry_number l n + width_of l.kind
entry_number-next l n = next_number l.first n l.kind

made_member : (bs : List ℕ) (p : ℕ) (l : EntryList) (n : ℕ) → ◌≡◌ {A = Member} (record { id = index_after (prior_of bs p l n) (number_at bs p (entry_number l n)); flags = number_at bs p (entry_number l n + 1); code = code_number bs p l.kind (entry_number l n + 2) }) (entry_of bs p l n)
made_member bs p l n = same_member _ _ _ _ _ _ (index_after-prior bs p l n) refl refl

pushed : {T : Type 0} (xs ys : List T) (x y : T) → xs ≡ ys → x ≡ y → xs ++ x ∷ [] ≡ ys ++ y ∷ []
pushed xs ys x y e f = rw (e, f) refl

entries_made : (bs : List ℕ) (class p : ℕ) (l : EntryList) (before n : ℕ) (y r : ReadMembers) (e : Member × ℕ) → HasEntries bs class p l before n y → IsEntry bs class p l.kind (prior_of bs p l n) (entry_number l n) e
    → before + length y.members + 1 ≤ limit_of Members → r ≡ record { place = e.1; members = y.members ++ e.0 ∷ [] } → HasEntries bs class p l before (suc n) r
entries_made bs class p l before n y r e has entry limit is =
    let next = entry_number-next l n in
    rw is (record {
      place = entry.place ∙ ap (number_place bs p) (sym next);
      members = pushed _ _ _ _ has.members (entry.member ∙ made_member bs p l n);
      numbers = λ k from to. range_join (λ j. IsUleb bs (number_place bs p j)) l.first (entry_number l n) (entry_number l n + width_of l.kind) has.numbers entry.numbers k from (omega (arith, next));
      sound = below_next (IsSoundEntry bs class p l) n has.sound (sound_from_own bs class p l n entry.own);
      limit = λ _. omega (arith, ap (λ (xs : List Member). length xs) has.members, length-list_below (entry_of bs p l) n);
    })

entries_next : (bs : List ℕ) (class p : ℕ) (l : EntryList) (before n : ℕ) (y r : ReadMembers) → HasEntries bs class p l before n y → with_entry bs class l.kind before y ≡ Ok r → HasEntries bs class p l before (suc n) r
unfolding with_entry
entries_next bs class p l before n y r has h =
    let a = bind_ok (entry_at bs class l.kind (last_id y.members) y.place) _ r h in
    let d = else_ok (nat_lt (limit_of Members) (before + length y.members + 1)) (Limit Members) _ r a.2 in
    let prior : last_id y.members ≡ prior_of bs p l n = ap last_id has.members ∙ last_id-below bs p l n in
    let e : entry_at bs class l.kind (prior_of bs p l n) (number_place bs p (entry_number l n)) ≡ Ok a.0 = rw (← prior, ← has.place) a.1 in
    entries_made bs class p l before n y r a.0 has (entry_read bs class p l.kind (prior_of bs p l n) (entry_number l n) a.0 e) (ltb-false _ _ d.0) (sym (ok_same _ _ d.1))

no_entries : (bs : List ℕ) (class p : ℕ) (l : EntryList) (before : ℕ) → HasEntries bs class p l before 0 (record { place = number_place bs p l.first; members = [] })
no_entries bs class p l before = record {
  place = ap (number_place bs p) (sym (entry_number-zero l));
  members = refl;
  numbers = λ k from to. absurd (omega (arith, entry_number-zero l));
  sound = λ i low. absurd (omega arith);
  limit = λ some. absurd (omega arith);
}

-- what is read as a list of entries is one
pub entries_read : (bs : List ℕ) (class p : ℕ) (l : EntryList) (before n : ℕ) (r : ReadMembers) → entries_at bs class l.kind before (number_place bs p l.first) n ≡ Ok r → HasEntries bs class p l before n r
entries_read bs class p l before zero r h = subst (HasEntries bs class p l before 0) (ok_same _ _ h) (no_entries bs class p l before)
entries_read bs class p l before (suc n) r h =
    let a = bind_ok (entries_at bs class l.kind before (number_place bs p l.first) n) _ r h in
    entries_next bs class p l before n a.0 r (entries_read bs class p l before n a.0 a.1) a.2

pushed_entry : (place q : ℕ) (xs : List Member) (x y : Member) → place ≡ q → x ≡ y → ◌≡◌ {A = Result ReadMembers DexFault} (Ok (record { place = place; members = xs ++ x ∷ [] })) (Ok (record { place = q; members = xs ++ y ∷ [] }))
pushed_entry place q xs x y e f = rw (e, f) refl

entry_reads_more : (bs : List ℕ) (class p : ℕ) (l : EntryList) (before n : ℕ)
    → entry_at bs class l.kind (prior_of bs p l n) (number_place bs p (entry_number l n)) ≡ Ok (record { id = index_after (prior_of bs p l n) (number_at bs p (entry_number l n)); flags = number_at bs p (entry_number l n + 1); code = code_number bs p l.kind (entry_number l n + 2) }, number_place bs p (entry_number l n + width_of l.kind))
    → before + suc n ≤ limit_of Members
    → with_entry bs class l.kind before (record { place = number_place bs p (entry_number l n); members = list_below (entry_of bs p l) n }) ≡ Ok (record { place = number_place bs p (entry_number l (suc n)); members = list_below (entry_of bs p l) (suc n) })
unfolding with_entry
entry_reads_more bs class p l before n last limit =
    let len = length-list_below (entry_of bs p l) n in
    let within : nat_lt (limit_of Members) (before + length (list_below (entry_of bs p l) n) + 1) ≡ false = le-ltb _ _ (omega (arith, len)) in
    rw (last_id-below bs p l n, last, within) (pushed_entry _ _ _ _ _ (ap (number_place bs p) (sym (entry_number-next l n))) (made_member bs p l n))

-- what is a list of entries is read as one
pub entries_reads : (bs : List ℕ) (class p : ℕ) (l : EntryList) (before n : ℕ) → ((k : ℕ) → l.first ≤ k → k < entry_number l n → IsUleb bs (number_place bs p k)) → ((i : ℕ) → i < n → IsSoundEntry bs class p l i) → (0 < n → before + n ≤ limit_of Members)
    → entries_at bs class l.kind before (number_place bs p l.first) n ≡ Ok (record { place = number_place bs p (entry_number l n); members = list_below (entry_of bs p l) n })
entries_reads bs class p l before zero numbers sound limit = rw (entry_number-zero l) refl
entries_reads bs class p l before (suc n) numbers sound limit =
    let next = entry_number-next l n in
    let earlier = entries_reads bs class p l before n (λ k from to. numbers k from (omega (arith, next))) (λ i low. sound i (omega arith)) (λ some. omega (arith, limit (omega arith))) in
    let last = entry_reads bs class p l.kind (prior_of bs p l n) (entry_number l n) (λ k from to. numbers k (omega arith) (omega (arith, next))) (own_from_sound bs class p l n (sound n (omega arith))) in
    bind_by (entries_at bs class l.kind before (number_place bs p l.first) n) _ _ _ earlier (entry_reads_more bs class p l before n last (limit (omega arith)))
