-- What the data of a string and a type list say where they are read, and that they are read where they are sound.
use Rattle.std.proofs.Common.{◌≡◌, ℕ, ◌+◌, ◌-◌, ◌*◌, ◌<◌, ◌≤◌, List, length, take, drop, nat_lt, cond, false, Result, Ok, Err, refl, sym, ap, subst, arith, ◌∙◌, inl, inr, ◌⊎◌, eq-eqb}
use Rattle.std.proofs.lemmas.Bool.{cases_eq, ne_eqb}
use Rattle.ns_base.specs.declared.answers.Counted.TheVariants.{Strings, TypeLists}
use Rattle.dex_bytes.specs.declared.fault.DexFault.{DexFault}
use Rattle.dex_bytes.specs.declared.fault.DexFault.TheVariants.{Short, Limit}
use Rattle.dex_bytes.specs.Leb128.{uleb_at}
use Rattle.dex_bytes.specs.Mutf8.{mutf8_at, IsMutf8, IsText}
use Rattle.dex_bytes.specs.Places.{IsUleb, uleb_value, uleb_next, text_at}
use Rattle.dex_bytes.proofs.Leb.{uleb_at-ok, IsUleb-ok}
use Rattle.dex_bytes.proofs.Texts.{text_found, found_text}
use Rattle.dex_tables.specs.declared.tables.Slice.{Slice}
use Rattle.dex_tables.specs.Reading.{◌>>=◌, named, string_at, entries_at, list_at}
use Rattle.dex_tables.specs.Rows.{type_count, list_size, list_entry}
use Rattle.dex_tables.specs.Sound.{IsSoundEntries, IsSoundList}
use Rattle.dex_tables.proofs.Chains.{bind_ok, test_ok, ok_is, not_lt, lt_not, named_ok, named_again}
use Rattle.dex_tables.proofs.Whole.{rows_ok, rows_again}
use Rattle.dex_tables.proofs.Words.{text_read, text_taken, text_ends, list_size-none}

-- the data of a string, where so many bytes came before
pub record IsStringRead (bs : List ℕ) (before off : ℕ) (slice : Slice) : Type 0 where
  pub number : IsUleb bs off
  pub closed : uleb_next bs off + length (text_at bs (uleb_next bs off)) < length bs
  pub spelled : IsMutf8 (text_at bs (uleb_next bs off)) (uleb_value bs off)
  pub limit : before + length (text_at bs (uleb_next bs off)) ≤ 67108864
  pub is : slice ≡ record { at = uleb_next bs off; len = length (text_at bs (uleb_next bs off)) }

abbrev after_units : List ℕ → ℕ → ℕ × ℕ → Result Slice DexFault
after_units bs before units = mutf8_at bs units.1 units.0 >>= λ end. cond (nat_lt 67108864 (before + (end - units.1))) (Err (Limit Strings)) (Ok (record { at = units.1; len = end - units.1 }))

pub string_ok : (bs : List ℕ) (before off : ℕ) (slice : Slice) → string_at bs before off ≡ Ok slice → IsStringRead bs before off slice
unfolding string_at
string_ok bs before off slice e =
    let u = bind_ok (uleb_at bs off) (after_units bs before) slice e in
    let v = uleb_value bs off in
    let n = uleb_next bs off in
    let pair : u.0 ≡ (v, n) = uleb_at-ok bs off u.0 u.1 in
    let rest : after_units bs before (v, n) ≡ Ok slice = subst (λ (r : ℕ × ℕ). after_units bs before r ≡ Ok slice) pair u.2 in
    let t = bind_ok (mutf8_at bs n v) (λ end. cond (nat_lt 67108864 (before + (end - n))) (Err (Limit Strings)) (Ok (record { at = n; len = end - n }))) slice rest in
    let made : Slice = record { at = n; len = t.0 - n } in
    let g = test_ok (nat_lt 67108864 (before + (t.0 - n))) (Limit Strings) (Ok made) slice t.2 in
    let read : (n ≤ t.0) × (t.0 < length bs) × (length (text_at bs n) ≡ t.0 - n) = text_read bs n v t.0 t.1 in
    let text : IsText bs n v t.0 = text_found bs n v t.0 t.1 in
    let spelled : IsMutf8 (take (t.0 - n) (drop n bs)) v = text.spelled in
    let same : take (t.0 - n) (drop n bs) ≡ text_at bs n = ap (λ (m : ℕ). take m (drop n bs)) (sym read.2) ∙ text_taken bs n in
    record {
      number = IsUleb-ok bs off u.0 u.1;
      closed = omega (arith, read.0, read.1, read.2);
      spelled = subst (λ (ys : List ℕ). IsMutf8 ys v) same spelled;
      limit = omega (arith, not_lt _ _ g.0, read.2);
      is = sym (ok_is made slice g.1) ∙ ap (λ (m : ℕ). let s : Slice = record { at = n; len = m } in s) (sym read.2);
    }

pub string_again : (bs : List ℕ) (before off : ℕ) → IsUleb bs off → uleb_next bs off + length (text_at bs (uleb_next bs off)) < length bs → IsMutf8 (text_at bs (uleb_next bs off)) (uleb_value bs off) → before + length (text_at bs (uleb_next bs off)) ≤ 67108864 → string_at bs before off ≡ Ok (record { at = uleb_next bs off; len = length (text_at bs (uleb_next bs off)) })
unfolding string_at IsUleb
string_again bs before off number closed spelled limit =
    let v = uleb_value bs off in
    let n = uleb_next bs off in
    let len = length (text_at bs n) in
    let size : (n + len) - n ≡ len = omega arith in
    let same : text_at bs n ≡ take ((n + len) - n) (drop n bs) = sym (text_taken bs n) ∙ ap (λ (m : ℕ). take m (drop n bs)) (sym size) in
    let text : IsText bs n v (n + len) = record {
      within = (omega arith, closed);
      zero_byte = text_ends bs n closed;
      spelled = subst (λ (ys : List ℕ). IsMutf8 ys v) same spelled;
    } in
    let read : mutf8_at bs n v ≡ Ok (n + len) = found_text bs n v (n + len) text in
    let test : nat_lt 67108864 (before + ((n + len) - n)) ≡ false = lt_not _ _ (omega (arith, size, limit)) in
    rw (number, read, test) (ap (λ (m : ℕ). let s : Result Slice DexFault = Ok (record { at = n; len = m }) in s) size)

-- a type list, where so many entries came before
pub record IsListRead (bs : List ℕ) (before off : ℕ) (slice : Slice) : Type 0 where
  pub sound : IsSoundList bs off
  pub limit : (list_size bs off ≡ 0) ⊎ (before + list_size bs off ≤ 4194304)
  pub is : slice ≡ record { at = before; len = list_size bs off }

abbrev after_entries : List ℕ → (before off : ℕ) → Result Slice DexFault
after_entries bs before off = cond (nat_lt 4194304 (before + list_size bs off)) (Err (Limit TypeLists)) (Ok (record { at = before; len = list_size bs off }))

abbrev some_list : List ℕ → (table row before off : ℕ) → Result Slice DexFault
some_list bs table row before off =
    cond (nat_lt (length bs) (off + 4)) (Err (Short off))
    (cond (nat_lt (length bs) (off + 4 + 2 * list_size bs off)) (Err (Short (off + 4)))
    (entries_at bs table row (type_count bs) off >>= λ entries. after_entries bs before off))

some_ok : (bs : List ℕ) (table row before off : ℕ) (slice : Slice) → some_list bs table row before off ≡ Ok slice → IsListRead bs before off slice
some_ok bs table row before off slice e =
    let entries = entries_at bs table row (type_count bs) off >>= λ entries. after_entries bs before off in
    let inner = cond (nat_lt (length bs) (off + 4 + 2 * list_size bs off)) (Err (Short (off + 4))) entries in
    let a = test_ok (nat_lt (length bs) (off + 4)) (Short off) inner slice e in
    let b = test_ok (nat_lt (length bs) (off + 4 + 2 * list_size bs off)) (Short (off + 4)) entries slice a.1 in
    let c = bind_ok (entries_at bs table row (type_count bs) off) (λ entries. after_entries bs before off) slice b.1 in
    let made : Slice = record { at = before; len = list_size bs off } in
    let d = test_ok (nat_lt 4194304 (before + list_size bs off)) (Limit TypeLists) (Ok made) slice c.2 in
    let types = rows_ok (λ (k : ℕ). named table row (type_count bs) (list_entry bs off k)) (list_entry bs off) (λ (k : ℕ). list_entry bs off k < type_count bs) (list_size bs off) c.0 (λ k x low is. named_ok table row (type_count bs) (list_entry bs off k) x is) c.1 in
    let sound : IsSoundEntries bs off = record { front = not_lt _ _ a.0; rows = not_lt _ _ b.0; entries = types.1 } in
    record {
      sound = λ some. sound;
      limit = inr (not_lt _ _ d.0);
      is = sym (ok_is made slice d.1);
    }

abbrev listed : ℕ → ℕ → Result Slice DexFault
listed before len = Ok (record { at = before; len = len })

no_ok : (bs : List ℕ) (before off : ℕ) (slice : Slice) → off ≡ 0 → listed before 0 ≡ Ok slice → IsListRead bs before off slice
no_ok bs before off slice none e =
    let size : list_size bs off ≡ 0 = ap (list_size bs) none ∙ list_size-none bs in
    let made : Slice = record { at = before; len = 0 } in
    record {
      sound = λ some. absurd (some none);
      limit = inl size;
      is = sym (ok_is made slice e) ∙ ap (λ (m : ℕ). let s : Slice = record { at = before; len = m } in s) (sym size);
    }

pub list_ok : (bs : List ℕ) (table row before off : ℕ) (slice : Slice) → list_at bs table row (type_count bs) before off ≡ Ok slice → IsListRead bs before off slice
unfolding list_at
list_ok bs table row before off slice e =
    elim (cases_eq off 0) [
      | inl none ↦ no_ok bs before off slice none (rw (eq-eqb off 0 none) at e)
      | inr some ↦ some_ok bs table row before off slice (rw (ne_eqb off 0 some) at e)
    ]

some_again : (bs : List ℕ) (table row before off : ℕ) → IsSoundEntries bs off → before + list_size bs off ≤ 4194304 → some_list bs table row before off ≡ Ok (record { at = before; len = list_size bs off })
some_again bs table row before off sound limit =
    let front : nat_lt (length bs) (off + 4) ≡ false = lt_not _ _ sound.front in
    let rows : nat_lt (length bs) (off + 4 + 2 * list_size bs off) ≡ false = lt_not _ _ sound.rows in
    let test : nat_lt 4194304 (before + list_size bs off) ≡ false = lt_not _ _ limit in
    let entries = rows_again (λ (k : ℕ). named table row (type_count bs) (list_entry bs off k)) (list_entry bs off) (list_size bs off) (λ k low. named_again table row (type_count bs) (list_entry bs off k) (sound.entries k low)) in
    rw (front, rows, entries, test) refl

pub list_again : (bs : List ℕ) (table row before off : ℕ) → IsSoundList bs off → before + list_size bs off ≤ 4194304 → list_at bs table row (type_count bs) before off ≡ Ok (record { at = before; len = list_size bs off })
unfolding list_at
list_again bs table row before off sound limit =
    elim (cases_eq off 0) [
      | inl none ↦
          let size : list_size bs off ≡ 0 = ap (list_size bs) none ∙ list_size-none bs in
          rw (eq-eqb off 0 none) (ap (listed before) (sym size))
      | inr some ↦ rw (ne_eqb off 0 some) (some_again bs table row before off (sound some) limit)
    ]
