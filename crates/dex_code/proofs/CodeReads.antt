-- What stands at a place as a code item is read as it.
use Rattle.std.proofs.Common.{◌≡◌, ℕ, zero, suc, ◌+◌, ◌-◌, ◌*◌, ◌<◌, ◌≤◌, inl, inr, List, [], ◌∷◌, ◌++◌, length, get_or, Bool, true, false, cond, nat_lt, ◌==◌, Option, Some, None, Result, Ok, refl, sym, ap, subst, arith, ◌∙◌, length-append, append_assoc, append-nil}
use Rattle.std.specs.List.{list_any}
use Rattle.std.proofs.lemmas.Bool.{cases_lt, cases_eq, eq-eqb, ne_eqb, lt-ltb, le-ltb, or_from}
use Rattle.std.proofs.lemmas.List.{ext_get_or}
use Rattle.std.proofs.lemmas.List.Folds.{list_any_at}
use Rattle.ns_base.specs.Answers.{limit_of}
use Rattle.ns_base.specs.declared.answers.Counted.TheVariants.{Units, Handlers}
use Rattle.dex_bytes.specs.declared.fault.DexFault.{DexFault}
use Rattle.dex_bytes.specs.Leb128.{uleb_at, sleb_at}
use Rattle.dex_bytes.specs.Places.{IsUleb, uleb_value, uleb_next, number_at, number_place}
use Rattle.dex_bytes.proofs.Leb.{number_place-zero}
use Rattle.dex_tables.specs.Reading.{◌>>=◌, list_below, joined_below}
use Rattle.dex_code.specs.declared.code.Handler.{Handler}
use Rattle.dex_code.specs.declared.code.TryRow.{TryRow}
use Rattle.dex_code.specs.declared.handlers.Bounds.{Bounds}
use Rattle.dex_code.specs.CodeItem.{code_registers, code_ins, code_tries, code_len, try_place, try_start, try_count, handlers_place}
use Rattle.dex_code.specs.HandlerPart.{list_size, list_body, IsSized, has_catch_all, typed_count, handler_count, list_numbers, list_end, IsList, list_place, IsHandlerPart, address_number, handler_of, try_list, handlers_before, try_row}
use Rattle.dex_code.specs.Content.{CodeContent, IsSoundTry, AreHandlers, IsCodeOf}
use Rattle.dex_code.specs.Reading.{numbers_end, list_end_at, lists_at, starts_at, ReadHandlers, with_address, with_typed, all_typed, with_handlers, front_at, is_range_bad, range_at, ranges_at, bounds_of, row_with, with_try, rows_at, tries_at, code_at}
use Rattle.dex_code.proofs.CodeLaw.{handlers_of, length-joined, joined_get, same_row}
use Rattle.dex_code.proofs.Entries.{number_reads}
use Rattle.dex_code.proofs.HandlerLists.{typed_handler, handler_typed, handler_last, address_typed, address_last, list_below_same, list_place-zero}
use Rattle.dex_code.proofs.Ranges.{bind_by, length-list_below, get_list_below, rows_are}

-- the front
front_reads : (bs : List ℕ) (p : ℕ) (code : CodeContent) → IsCodeOf bs p code → front_at bs p ≡ Ok (code_len bs p)
unfolding front_at
front_reads bs p code is =
    let a : nat_lt (length bs) (p + 16) ≡ false = le-ltb _ _ is.front in
    let b : nat_lt (code_registers bs p) (code_ins bs p) ≡ false = le-ltb _ _ is.room in
    let c : nat_lt (length bs) (p + 16 + 2 * code_len bs p) ≡ false = le-ltb _ _ is.in_file in
    let d : nat_lt (limit_of Units) (code_len bs p) ≡ false = le-ltb _ _ is.unit_limit in
    rw (a, b, c, d) refl

-- the rows of the tries
range_reads : (bs : List ℕ) (p t : ℕ) → IsSoundTry bs p t → range_at bs p t ≡ Ok (t + 1)
unfolding range_at
range_reads bs p t sound =
    let a : nat_lt (length bs) (try_place bs p t + 8) ≡ false = le-ltb _ _ sound.in_file in
    let some = sound.some in
    let ne : try_count bs p t ≡ 0 → ⊥ = λ e. absurd (omega arith) in
    let b : is_range_bad bs p t ≡ false = or_from _ _ (or_from _ _ (ne_eqb (try_count bs p t) 0 ne) (le-ltb _ _ sound.within)) (le-ltb _ _ sound.behind) in
    rw (a, b) refl

ranges_reads : (bs : List ℕ) (p n : ℕ) → ((t : ℕ) → t < n → IsSoundTry bs p t) → ranges_at bs p n ≡ Ok n
ranges_reads bs p zero sound = refl
ranges_reads bs p (suc n) sound =
    let next : n + 1 ≡ suc n = omega arith in
    bind_by (ranges_at bs p n) _ n (Ok (suc n)) (ranges_reads bs p n (λ t low. sound t (omega arith))) (range_reads bs p n (sound n (omega arith)) ∙ ap (λ (m : ℕ). Ok m) next)

-- the lists of the handler part
size_reads : (bs : List ℕ) (q : ℕ) → IsSized bs q → sleb_at bs q ≡ Ok (list_size bs q, list_body bs q)
unfolding IsSized
size_reads bs q h = h

numbers_reads : (bs : List ℕ) (p n : ℕ) → ((k : ℕ) → k < n → IsUleb bs (number_place bs p k)) → numbers_end bs p n ≡ Ok (number_place bs p n)
numbers_reads bs p zero there = ap (λ (q : ℕ). Ok q) (sym (number_place-zero bs p))
numbers_reads bs p (suc n) there =
    let next : n + 1 ≡ suc n = omega arith in
    bind_by (numbers_end bs p n) _ (number_place bs p n) (Ok (number_place bs p (suc n))) (numbers_reads bs p n (λ k low. there k (omega arith)))
    (bind_by (uleb_at bs (number_place bs p n)) _ _ (Ok (number_place bs p (suc n))) (number_reads bs p n (there n (omega arith))) (ap (λ (q : ℕ). Ok (number_place bs p q)) next))

list_reads : (bs : List ℕ) (q : ℕ) → IsList bs q → list_end_at bs q ≡ Ok (list_end bs q)
unfolding list_end_at list_end
list_reads bs q is = bind_by (sleb_at bs q) _ _ _ (size_reads bs q is.size) (numbers_reads bs (list_body bs q) (list_numbers bs q) is.numbers)

lists_reads : (bs : List ℕ) (h n : ℕ) → ((j : ℕ) → j < n → IsList bs (list_place bs h j)) → lists_at bs (list_place bs h 0) n ≡ Ok (record { place = list_place bs h n; starts = list_below (list_place bs h) n })
unfolding list_place
lists_reads bs h zero there = refl
lists_reads bs h (suc n) there =
    bind_by (lists_at bs (list_place bs h 0) n) _ _ _ (lists_reads bs h n (λ j low. there j (omega arith)))
    (bind_by (list_end_at bs (list_place bs h n)) _ _ _ (list_reads bs (list_place bs h n) (there n (omega arith))) refl)

lists_read_first : (bs : List ℕ) (h n : ℕ) → ((j : ℕ) → j < n → IsList bs (list_place bs h j)) → lists_at bs (uleb_next bs h) n ≡ Ok (record { place = list_place bs h n; starts = list_below (list_place bs h) n })
lists_read_first bs h n there = subst (λ (q : ℕ). lists_at bs q n ≡ Ok (record { place = list_place bs h n; starts = list_below (list_place bs h) n })) (list_place-zero bs h) (lists_reads bs h n there)

starts_reads : (bs : List ℕ) (h : ℕ) → IsHandlerPart bs h → starts_at bs h ≡ Ok (list_below (list_place bs h) (uleb_value bs h))
unfolding starts_at IsUleb
starts_reads bs h is =
    bind_by (uleb_at bs h) _ _ _ is.count
    (bind_by (lists_at bs (uleb_next bs h) (uleb_value bs h)) _ _ _ (lists_read_first bs h (uleb_value bs h) is.lists) refl)

begun : (f : ℕ → ℕ) (n x : ℕ) → (j : ℕ) × (j < n) × (f j ≡ x) → list_any (λ q. q == x) (list_below f n) ≡ true
begun f n x at =
    let low : at.0 < length (list_below f n) = omega (arith, length-list_below f n, at.1) in
    list_any_at (λ q. q == x) (list_below f n) at.0 0 low (eq-eqb _ _ (get_list_below f n at.0 0 at.1 ∙ at.2))

-- a handler
address_reads : (bs : List ℕ) (bounds : Bounds) (caught : Option ℕ) (body m : ℕ) (handlers : List Handler) → IsUleb bs (number_place bs body m) → number_at bs body m < bounds.units → length handlers + 1 ≤ limit_of Handlers
    → with_address bs bounds caught (number_place bs body m) handlers ≡ Ok (record { place = number_place bs body (m + 1); handlers = handlers ++ record { caught = caught; target = number_at bs body m } ∷ [] })
unfolding with_address
address_reads bs bounds caught body m handlers there within room =
    let a = number_reads bs body m there in
    let b : nat_lt (number_at bs body m) bounds.units ≡ true = lt-ltb _ _ within in
    let c : nat_lt (limit_of Handlers) (length handlers + 1) ≡ false = le-ltb _ _ room in
    rw (a, b, c) refl

typed_reads_one : (bs : List ℕ) (bounds : Bounds) (t body m : ℕ) (handlers : List Handler) → IsUleb bs (number_place bs body m) → IsUleb bs (number_place bs body (m + 1)) → number_at bs body m < bounds.types → number_at bs body (m + 1) < bounds.units → length handlers + 1 ≤ limit_of Handlers
    → with_typed bs bounds t (record { place = number_place bs body m; handlers = handlers }) ≡ Ok (record { place = number_place bs body (m + 1 + 1); handlers = handlers ++ record { caught = Some (number_at bs body m); target = number_at bs body (m + 1) } ∷ [] })
unfolding with_typed
typed_reads_one bs bounds t body m handlers there next known within room =
    let a = number_reads bs body m there in
    let b : nat_lt (number_at bs body m) bounds.types ≡ true = lt-ltb _ _ known in
    rw (a, b) (address_reads bs bounds (Some (number_at bs body m)) body (m + 1) handlers next within room)

same_read : (a b : ℕ) (xs ys : List Handler) → a ≡ b → xs ≡ ys → ◌≡◌ {A = Result ReadHandlers DexFault} (Ok (record { place = a; handlers = xs })) (Ok (record { place = b; handlers = ys }))
same_read a b xs ys e f = rw (e, f) refl

-- the handlers of a list that have a type
typed_reads : (bs : List ℕ) (bounds : Bounds) (t body : ℕ) (handlers : List Handler) (n : ℕ) → ((k : ℕ) → k < 2 * n → IsUleb bs (number_place bs body k))
    → ((k : ℕ) → k < n → number_at bs body (2 * k) < bounds.types) → ((k : ℕ) → k < n → number_at bs body (2 * k + 1) < bounds.units) → length handlers + n ≤ limit_of Handlers
    → all_typed bs bounds t body handlers n ≡ Ok (record { place = number_place bs body (2 * n); handlers = handlers ++ list_below (typed_handler bs body) n })
typed_reads bs bounds t body handlers zero there known within room = same_read _ _ _ _ (sym (number_place-zero bs body)) (sym (append-nil handlers))
typed_reads bs bounds t body handlers (suc n) there known within room =
    let earlier = typed_reads bs bounds t body handlers n (λ k low. there k (omega arith)) (λ k low. known k (omega arith)) (λ k low. within k (omega arith)) (omega arith) in
    let len : length (handlers ++ list_below (typed_handler bs body) n) ≡ length handlers + n = omega (arith, length-append handlers (list_below (typed_handler bs body) n), length-list_below (typed_handler bs body) n) in
    let one = typed_reads_one bs bounds t body (2 * n) (handlers ++ list_below (typed_handler bs body) n) (there (2 * n) (omega arith)) (there (2 * n + 1) (omega arith)) (known n (omega arith)) (within n (omega arith)) (omega (arith, len)) in
    let next : 2 * n + 1 + 1 ≡ 2 * suc n = omega arith in
    bind_by (all_typed bs bounds t body handlers n) _ _ _ earlier (one ∙ same_read _ _ _ _ (ap (number_place bs body) next) (append_assoc handlers (list_below (typed_handler bs body) n) (typed_handler bs body n ∷ [])))

-- what is asked of the list at q, where so many handlers came before
pub record AreGood (bs : List ℕ) (bounds : Bounds) (q before : ℕ) : Type 0 where
  pub list : IsList bs q
  pub caught : (k : ℕ) → k < typed_count bs q → number_at bs (list_body bs q) (2 * k) < bounds.types
  pub target : (k : ℕ) → k < handler_count bs q → number_at bs (list_body bs q) (address_number bs q k) < bounds.units
  pub limit : before + handler_count bs q ≤ limit_of Handlers

typed_of_list : (bs : List ℕ) (bounds : Bounds) (t q : ℕ) (handlers : List Handler) → AreGood bs bounds q (length handlers)
    → all_typed bs bounds t (list_body bs q) handlers (typed_count bs q) ≡ Ok (record { place = number_place bs (list_body bs q) (2 * typed_count bs q); handlers = handlers ++ list_below (handler_of bs q) (typed_count bs q) })
typed_of_list bs bounds t q handlers good =
    typed_reads bs bounds t (list_body bs q) handlers (typed_count bs q)
    (λ k low. good.list.numbers k (omega arith))
    good.caught
    (λ k low. subst (λ (m : ℕ). number_at bs (list_body bs q) m < bounds.units) (address_typed bs q k low) (good.target k (omega arith)))
    (omega (arith, good.limit))
    ∙ same_read _ _ _ _ refl (ap (λ (l : List Handler). handlers ++ l) (list_below_same (typed_handler bs (list_body bs q)) (handler_of bs q) (typed_count bs q) (handler_typed bs q)))

same_list : (a b : List Handler) → a ≡ b → ◌≡◌ {A = Result (List Handler) DexFault} (Ok a) (Ok b)
same_list a b e = rw e refl

last_reads : (bs : List ℕ) (bounds : Bounds) (q : ℕ) (handlers : List Handler) (b : Bool) → has_catch_all (list_size bs q) ≡ b → AreGood bs bounds q (length handlers)
    → (cond b (with_address bs bounds None (number_place bs (list_body bs q) (2 * typed_count bs q)) (handlers ++ list_below (handler_of bs q) (typed_count bs q))) (Ok (record { place = number_place bs (list_body bs q) (2 * typed_count bs q); handlers = handlers ++ list_below (handler_of bs q) (typed_count bs q) })) >>= λ all. Ok all.handlers)
    ≡ Ok (handlers ++ list_below (handler_of bs q) (handler_count bs q))
last_reads bs bounds q handlers true one good =
    let count : handler_count bs q ≡ suc (typed_count bs q) = rw one (omega arith) in
    let numbers : list_numbers bs q ≡ 2 * typed_count bs q + 1 = rw one refl in
    let len : length (handlers ++ list_below (handler_of bs q) (typed_count bs q)) ≡ length handlers + typed_count bs q = omega (arith, length-append handlers (list_below (handler_of bs q) (typed_count bs q)), length-list_below (handler_of bs q) (typed_count bs q)) in
    let read = address_reads bs bounds None (list_body bs q) (2 * typed_count bs q) (handlers ++ list_below (handler_of bs q) (typed_count bs q))
    (good.list.numbers (2 * typed_count bs q) (omega (arith, numbers)))
    (subst (λ (m : ℕ). number_at bs (list_body bs q) m < bounds.units) (address_last bs q) (good.target (typed_count bs q) (omega (arith, count))))
    (omega (arith, len, count, good.limit)) in
    rw (read, count, handler_last bs q) (same_list _ _ (append_assoc handlers (list_below (handler_of bs q) (typed_count bs q)) (handler_of bs q (typed_count bs q) ∷ [])))
last_reads bs bounds q handlers false none good =
    let count : handler_count bs q ≡ typed_count bs q = rw none (omega arith) in
    rw count refl

handlers_reads : (bs : List ℕ) (bounds : Bounds) (t q : ℕ) (handlers : List Handler) → AreGood bs bounds q (length handlers) → with_handlers bs bounds t q handlers ≡ Ok (handlers ++ list_below (handler_of bs q) (handler_count bs q))
unfolding with_handlers
handlers_reads bs bounds t q handlers good =
    bind_by (sleb_at bs q) _ _ _ (size_reads bs q good.list.size)
    (bind_by (all_typed bs bounds t (list_body bs q) handlers (typed_count bs q)) _ _ _ (typed_of_list bs bounds t q handlers good)
    (last_reads bs bounds q handlers (has_catch_all (list_size bs q)) refl good))

-- the tries with their handlers
good_try : (bs : List ℕ) (p t : ℕ) → IsHandlerPart bs (handlers_place bs p) → IsSoundTry bs p t → handlers_before bs p (suc t) ≤ limit_of Handlers → AreGood bs (bounds_of bs p) (try_list bs p t) (handlers_before bs p t)
good_try bs p t part sound limit = record {
  list = subst (IsList bs) sound.list.2 (part.lists sound.list.0 sound.list.1);
  caught = λ k low. (sound.handlers k (omega arith)).caught low;
  target = λ k low. (sound.handlers k low).target;
  limit = limit;
}

try_reads : (bs : List ℕ) (p t : ℕ) → IsHandlerPart bs (handlers_place bs p) → IsSoundTry bs p t → handlers_before bs p (suc t) ≤ limit_of Handlers
    → with_try bs p (list_below (list_place bs (handlers_place bs p)) (uleb_value bs (handlers_place bs p))) t (record { tries = list_below (try_row bs p) t; handlers = joined_below (handlers_of bs p) t })
    ≡ Ok (record { tries = list_below (try_row bs p) (suc t); handlers = joined_below (handlers_of bs p) (suc t) })
unfolding with_try
try_reads bs p t part sound limit =
    let a = begun (list_place bs (handlers_place bs p)) (uleb_value bs (handlers_place bs p)) (try_list bs p t) sound.list in
    let before : length (joined_below (handlers_of bs p) t) ≡ handlers_before bs p t = length-joined bs p t in
    let now : length (joined_below (handlers_of bs p) (suc t)) ≡ handlers_before bs p t + handler_count bs (try_list bs p t) = length-joined bs p (suc t) in
    let good : AreGood bs (bounds_of bs p) (try_list bs p t) (length (joined_below (handlers_of bs p) t)) = subst (AreGood bs (bounds_of bs p) (try_list bs p t)) (sym before) (good_try bs p t part sound limit) in
    let b = handlers_reads bs (bounds_of bs p) t (try_list bs p t) (joined_below (handlers_of bs p) t) good in
    let row : row_with bs p t (length (joined_below (handlers_of bs p) t)) (length (joined_below (handlers_of bs p) (suc t))) ≡ try_row bs p t = same_row (try_start bs p t) (try_count bs p t) _ _ _ _ before (omega (arith, now, before)) in
    rw (a, b) (ap (λ (r : TryRow). Ok (record { tries = list_below (try_row bs p) t ++ r ∷ []; handlers = joined_below (handlers_of bs p) (suc t) })) row)

rows_reads : (bs : List ℕ) (p n : ℕ) → IsHandlerPart bs (handlers_place bs p) → ((t : ℕ) → t < n → IsSoundTry bs p t) → handlers_before bs p n ≤ limit_of Handlers
    → rows_at bs p (list_below (list_place bs (handlers_place bs p)) (uleb_value bs (handlers_place bs p))) n ≡ Ok (record { tries = list_below (try_row bs p) n; handlers = joined_below (handlers_of bs p) n })
rows_reads bs p zero part sound limit = refl
rows_reads bs p (suc n) part sound limit =
    bind_by (rows_at bs p (list_below (list_place bs (handlers_place bs p)) (uleb_value bs (handlers_place bs p))) n) _ _ _
    (rows_reads bs p n part (λ t low. sound t (omega arith)) (omega (arith, limit)))
    (try_reads bs p n part (sound n (omega arith)) limit)

tries_reads : (bs : List ℕ) (p : ℕ) → (0 < code_tries bs p → IsHandlerPart bs (handlers_place bs p)) → ((t : ℕ) → t < code_tries bs p → IsSoundTry bs p t) → handlers_before bs p (code_tries bs p) ≤ limit_of Handlers
    → tries_at bs p ≡ Ok (record { tries = list_below (try_row bs p) (code_tries bs p); handlers = joined_below (handlers_of bs p) (code_tries bs p) })
unfolding tries_at
tries_reads bs p part sound limit =
    elim (cases_eq (code_tries bs p) 0) [
      | inl z ↦ rw z refl
      | inr some ↦ (let there : IsHandlerPart bs (handlers_place bs p) = part (omega (arith, some)) in
          rw (ne_eqb (code_tries bs p) 0 some)
          (bind_by (ranges_at bs p (code_tries bs p)) _ _ _ (ranges_reads bs p (code_tries bs p) sound)
          (bind_by (starts_at bs (handlers_place bs p)) _ _ _ (starts_reads bs (handlers_place bs p) there)
          (rows_reads bs p (code_tries bs p) there sound limit))))
    ]

-- each handler is one of some try
try_with : (bs : List ℕ) (p n i : ℕ) → i < handlers_before bs p n → (t : ℕ) × (k : ℕ) × (t < n) × (k < handler_count bs (try_list bs p t)) × (i ≡ handlers_before bs p t + k)
try_with bs p zero i low = absurd (omega arith)
try_with bs p (suc n) i low =
    elim (cases_lt i (handlers_before bs p n)) [
      | inl h ↦ (let earlier = try_with bs p n i h in (earlier.0, earlier.1, omega (arith, earlier.2), earlier.3, earlier.4))
      | inr h ↦ (n, i - handlers_before bs p n, omega arith, omega arith, omega arith)
    ]

no_handler : Handler
no_handler = record { caught = None; target = 0 }

one_handler : (bs : List ℕ) (p i : ℕ) (handlers : List Handler) → AreHandlers bs p handlers → (t : ℕ) × (k : ℕ) × (t < code_tries bs p) × (k < handler_count bs (try_list bs p t)) × (i ≡ handlers_before bs p t + k)
    → get_or handlers i no_handler ≡ get_or (joined_below (handlers_of bs p) (code_tries bs p)) i no_handler
one_handler bs p i handlers are at =
    rw at.4 (are.each at.0 at.1 no_handler at.2 at.3 ∙ sym (joined_get bs p (code_tries bs p) at.0 at.1 no_handler at.2 at.3))

handlers_are : (bs : List ℕ) (p : ℕ) (handlers : List Handler) → AreHandlers bs p handlers → handlers ≡ joined_below (handlers_of bs p) (code_tries bs p)
handlers_are bs p handlers are =
    let len = length-joined bs p (code_tries bs p) in
    ext_get_or no_handler handlers (joined_below (handlers_of bs p) (code_tries bs p)) (are.count ∙ sym len)
    (λ i low. one_handler bs p i handlers are (try_with bs p (code_tries bs p) i (omega (arith, are.count))))

no_row : TryRow
no_row = record { start = 0; count = 0; handlers = record { at = 0; len = 0 } }

same_code : (a b c x y z : ℕ) (us vs : List ℕ) (ts rs : List TryRow) (hs gs : List Handler) → x ≡ a → y ≡ b → z ≡ c → vs ≡ us → rs ≡ ts → gs ≡ hs
    → ◌≡◌ {A = Result CodeContent DexFault} (Ok (record { registers = a; ins = b; outs = c; units = us; tries = ts; handlers = hs })) (Ok (record { registers = x; ins = y; outs = z; units = vs; tries = rs; handlers = gs }))
same_code a b c x y z us vs ts rs hs gs d e f g h i = rw (d, e, f, g, h, i) refl

pub code_reads : (bs : List ℕ) (p : ℕ) (code : CodeContent) → IsCodeOf bs p code → code_at bs p ≡ Ok code
unfolding code_at
code_reads bs p code is =
    let handlers = handlers_are bs p code.handlers is.handlers in
    let limit : handlers_before bs p (code_tries bs p) ≤ limit_of Handlers = omega (arith, is.handlers.count, is.handler_limit) in
    bind_by (front_at bs p) _ _ _ (front_reads bs p code is)
    (bind_by (tries_at bs p) _ _ _ (tries_reads bs p is.part is.sound limit)
    (same_code _ _ _ _ _ _ _ _ _ _ _ _ is.registers is.ins is.outs (rows_are 0 _ _ _ is.units) (rows_are no_row _ _ _ is.tries) handlers))
