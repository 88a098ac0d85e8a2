-- The members of a class as they are read and as the file has them by offsets are the same.
use Rattle.std.proofs.Common.{◌≡◌, ℕ, ◌+◌, ◌<◌, ◌≤◌, inl, inr, List, Result, Ok, refl, sym, ap, subst, arith, ◌∙◌}
use Rattle.std.proofs.lemmas.Bool.{cases_eq, eq-eqb, ne_eqb}
use Rattle.dex_bytes.specs.declared.fault.DexFault.{DexFault}
use Rattle.dex_bytes.specs.Leb128.{uleb_at}
use Rattle.dex_bytes.specs.Places.{IsUleb, number_at, number_place}
use Rattle.dex_bytes.proofs.Leb.{number_place-zero}
use Rattle.dex_tables.specs.Rows.{class_data}
use Rattle.dex_code.specs.declared.class_data.Kind.{Kind}
use Rattle.dex_code.specs.declared.class_data.Kind.TheVariants.{Field, Method}
use Rattle.dex_code.specs.declared.members.Member.{Member}
use Rattle.dex_code.specs.ClassData.{static_count, instance_count, direct_count, virtual_count, number_count, EntryList, statics_of, instances_of, directs_of, virtuals_of, entry_number, entry_of}
use Rattle.dex_code.specs.Content.{MemberLists, AreEntries, AreMembersAt, AreMembersOf}
use Rattle.dex_code.specs.Reading.{entries_at, class_data_at, members_at, ReadMembers}
use Rattle.dex_code.proofs.Entries.{IsRead, number_read, number_reads, HasEntries, entries_read, entries_reads}
use Rattle.dex_code.proofs.Ranges.{range_join, range_one, bind_ok, ok_same, rows_from, rows_are}

moved : (bs : List ℕ) (class : ℕ) (kind : Kind) (before before' place place' count count' : ℕ) (a : Result ReadMembers DexFault) → before ≡ before' → place ≡ place' → count ≡ count' → entries_at bs class kind before place count ≡ a → entries_at bs class kind before' place' count' ≡ a
moved bs class kind before before' place place' count count' a e f g h = rw (← e, ← f, ← g) h

same_sum : (a b x y : ℕ) → a ≡ x → b ≡ y → a + b ≡ x + y
same_sum a b x y e f = rw (e, f) refl

within_limit : (s i d v limit : ℕ) → (0 < s → 0 + s ≤ limit) → (0 < i → s + i ≤ limit) → (0 < d → s + i + d ≤ limit) → (0 < v → s + i + d + v ≤ limit) → s + i + d + v ≤ limit
within_limit s i d v limit a b c e = grind arith

are_entries : (bs : List ℕ) (class p : ℕ) (l : EntryList) (before : ℕ) (r : ReadMembers) (members : List Member) → r.members ≡ members → HasEntries bs class p l before l.count r → AreEntries bs class p l members
are_entries bs class p l before r members e has = record {
  rows = rows_from members l.count (entry_of bs p l) (sym e ∙ has.members);
  sound = has.sound;
}

members_made : (bs : List ℕ) (class p : ℕ) (s i d v : ℕ × ℕ) (a b c e : ReadMembers) (m : MemberLists)
    → IsRead bs p 0 s → IsRead bs p 1 i → IsRead bs p 2 d → IsRead bs p 3 v
    → entries_at bs class Field 0 v.1 s.0 ≡ Ok a
    → entries_at bs class Field s.0 a.place i.0 ≡ Ok b
    → entries_at bs class Method (s.0 + i.0) b.place d.0 ≡ Ok c
    → entries_at bs class Method (s.0 + i.0 + d.0) c.place v.0 ≡ Ok e
    → ◌≡◌ {A = MemberLists} (record { statics = a.members; instances = b.members; directs = c.members; virtuals = e.members }) m
    → AreMembersAt bs class p m
members_made bs class p s i d v a b c e m rs ri rd rv ha hb hc he is =
    let A : HasEntries bs class p (statics_of bs p) 0 (static_count bs p) a =
    entries_read bs class p (statics_of bs p) 0 (static_count bs p) a (moved bs class Field 0 0 _ _ _ _ (Ok a) refl rv.next rs.value ha) in
    let B : HasEntries bs class p (instances_of bs p) (static_count bs p) (instance_count bs p) b =
    entries_read bs class p (instances_of bs p) (static_count bs p) (instance_count bs p) b (moved bs class Field _ _ _ _ _ _ (Ok b) rs.value A.place ri.value hb) in
    let C : HasEntries bs class p (directs_of bs p) (static_count bs p + instance_count bs p) (direct_count bs p) c =
    entries_read bs class p (directs_of bs p) (static_count bs p + instance_count bs p) (direct_count bs p) c (moved bs class Method _ _ _ _ _ _ (Ok c) (same_sum _ _ _ _ rs.value ri.value) B.place rd.value hc) in
    let E : HasEntries bs class p (virtuals_of bs p) (static_count bs p + instance_count bs p + direct_count bs p) (virtual_count bs p) e =
    entries_read bs class p (virtuals_of bs p) (static_count bs p + instance_count bs p + direct_count bs p) (virtual_count bs p) e (moved bs class Method _ _ _ _ _ _ (Ok e) (same_sum _ _ _ _ (same_sum _ _ _ _ rs.value ri.value) rd.value) C.place rv.value he) in
    let P : ℕ → Type 0 = λ k. IsUleb bs (number_place bs p k) in
    record {
      numbers = λ k low. range_join P 0 1 (number_count bs p) (range_one P 0 rs.number)
          (range_join P 1 2 (number_count bs p) (range_one P 1 ri.number)
          (range_join P 2 3 (number_count bs p) (range_one P 2 rd.number)
          (range_join P 3 4 (number_count bs p) (range_one P 3 rv.number)
          (range_join P 4 (entry_number (statics_of bs p) (static_count bs p)) (number_count bs p) A.numbers
          (range_join P (entry_number (statics_of bs p) (static_count bs p)) (entry_number (instances_of bs p) (instance_count bs p)) (number_count bs p) B.numbers
          (range_join P (entry_number (instances_of bs p) (instance_count bs p)) (entry_number (directs_of bs p) (direct_count bs p)) (number_count bs p) C.numbers E.numbers)))))) k (omega arith) low;
      statics = are_entries bs class p (statics_of bs p) 0 a m.statics (ap (λ (x : MemberLists). x.statics) is) A;
      instances = are_entries bs class p (instances_of bs p) _ b m.instances (ap (λ (x : MemberLists). x.instances) is) B;
      directs = are_entries bs class p (directs_of bs p) _ c m.directs (ap (λ (x : MemberLists). x.directs) is) C;
      virtuals = are_entries bs class p (virtuals_of bs p) _ e m.virtuals (ap (λ (x : MemberLists). x.virtuals) is) E;
      limit = within_limit _ _ _ _ _ A.limit B.limit C.limit E.limit;
    }

members_read_at : (bs : List ℕ) (class p : ℕ) (m : MemberLists) → class_data_at bs class p ≡ Ok m → AreMembersAt bs class p m
unfolding class_data_at
members_read_at bs class p m h =
    let s = bind_ok (uleb_at bs p) _ m h in
    let rs : IsRead bs p 0 s.0 = number_read bs p 0 s.0 (rw (number_place-zero bs p) s.1) in
    let i = bind_ok (uleb_at bs s.0.1) _ m s.2 in
    let ri : IsRead bs p 1 i.0 = number_read bs p 1 i.0 (subst (λ (q : ℕ). uleb_at bs q ≡ Ok i.0) rs.next i.1) in
    let d = bind_ok (uleb_at bs i.0.1) _ m i.2 in
    let rd : IsRead bs p 2 d.0 = number_read bs p 2 d.0 (subst (λ (q : ℕ). uleb_at bs q ≡ Ok d.0) ri.next d.1) in
    let v = bind_ok (uleb_at bs d.0.1) _ m d.2 in
    let rv : IsRead bs p 3 v.0 = number_read bs p 3 v.0 (subst (λ (q : ℕ). uleb_at bs q ≡ Ok v.0) rd.next v.1) in
    let a = bind_ok (entries_at bs class Field 0 v.0.1 s.0.0) _ m v.2 in
    let b = bind_ok (entries_at bs class Field s.0.0 a.0.place i.0.0) _ m a.2 in
    let c = bind_ok (entries_at bs class Method (s.0.0 + i.0.0) b.0.place d.0.0) _ m b.2 in
    let e = bind_ok (entries_at bs class Method (s.0.0 + i.0.0 + d.0.0) c.0.place v.0.0) _ m c.2 in
    members_made bs class p s.0 i.0 d.0 v.0 a.0 b.0 c.0 e.0 m rs ri rd rv a.1 b.1 c.1 e.1 (ok_same _ _ e.2)

no_member : Member
no_member = record { id = 0; flags = 0; code = 0 }

lists_same : (a b c d x y z w : List Member) → a ≡ x → b ≡ y → c ≡ z → d ≡ w → ◌≡◌ {A = Result MemberLists DexFault} (Ok (record { statics = x; instances = y; directs = z; virtuals = w })) (Ok (record { statics = a; instances = b; directs = c; virtuals = d }))
lists_same a b c d x y z w e f g h = rw (e, f, g, h) refl

members_reads_at : (bs : List ℕ) (class p : ℕ) (m : MemberLists) → AreMembersAt bs class p m → class_data_at bs class p ≡ Ok m
unfolding class_data_at
members_reads_at bs class p m are =
    let first : uleb_at bs p ≡ Ok (number_at bs p 0, number_place bs p 1) = rw number_place-zero at (number_reads bs p 0 (are.numbers 0 (omega arith))) in
    let second : uleb_at bs (number_place bs p 1) ≡ Ok (number_at bs p 1, number_place bs p 2) = number_reads bs p 1 (are.numbers 1 (omega arith)) in
    let third : uleb_at bs (number_place bs p 2) ≡ Ok (number_at bs p 2, number_place bs p 3) = number_reads bs p 2 (are.numbers 2 (omega arith)) in
    let fourth : uleb_at bs (number_place bs p 3) ≡ Ok (number_at bs p 3, number_place bs p 4) = number_reads bs p 3 (are.numbers 3 (omega arith)) in
    let a = entries_reads bs class p (statics_of bs p) 0 (static_count bs p) (λ k from to. are.numbers k (omega arith)) are.statics.sound (λ some. omega (arith, are.limit)) in
    let b = entries_reads bs class p (instances_of bs p) (static_count bs p) (instance_count bs p) (λ k from to. are.numbers k (omega arith)) are.instances.sound (λ some. omega (arith, are.limit)) in
    let c = entries_reads bs class p (directs_of bs p) (static_count bs p + instance_count bs p) (direct_count bs p) (λ k from to. are.numbers k (omega arith)) are.directs.sound (λ some. omega (arith, are.limit)) in
    let e = entries_reads bs class p (virtuals_of bs p) (static_count bs p + instance_count bs p + direct_count bs p) (virtual_count bs p) (λ k from to. are.numbers k (omega arith)) are.virtuals.sound (λ some. omega (arith, are.limit)) in
    rw (first, second, third, fourth, a, b, c, e) (lists_same _ _ _ _ _ _ _ _
    (rows_are no_member _ _ _ are.statics.rows)
    (rows_are no_member _ _ _ are.instances.rows)
    (rows_are no_member _ _ _ are.directs.rows)
    (rows_are no_member _ _ _ are.virtuals.rows))

pub members_read : (bs : List ℕ) (class : ℕ) (m : MemberLists) → members_at bs class ≡ Ok m → AreMembersOf bs class m
members_read bs class m h =
    elim (cases_eq (class_data bs class) 0) [
      | inl z ↦ record {
        absent = λ _. sym (ok_same _ _ (rw (eq-eqb (class_data bs class) 0 z) at h));
        present = λ some. absurd (some z);
      }
      | inr some ↦ record {
        absent = λ z. absurd (some z);
        present = λ _. members_read_at bs class (class_data bs class) m (rw (ne_eqb (class_data bs class) 0 some) at h);
      }
    ]

pub members_reads : (bs : List ℕ) (class : ℕ) (m : MemberLists) → AreMembersOf bs class m → members_at bs class ≡ Ok m
members_reads bs class m are =
    elim (cases_eq (class_data bs class) 0) [
      | inl z ↦ rw (eq-eqb (class_data bs class) 0 z, are.absent z) refl
      | inr some ↦ rw (ne_eqb (class_data bs class) 0 some) (members_reads_at bs class (class_data bs class) m (are.present some))
    ]
