-- A code item as it is read is what stands there by offsets.
use Rattle.std.proofs.Common.{◌≡◌, ℕ, zero, suc, ◌+◌, ◌-◌, ◌*◌, ◌<◌, ◌≤◌, inl, inr, List, [], ◌∷◌, ◌++◌, length, get_or, true, nat_lt, ◌==◌, Ok, refl, sym, ap, subst, arith, ◌∙◌, length-append}
use Rattle.std.specs.List.{list_any}
use Rattle.std.proofs.lemmas.Bool.{cases_lt, cases_eq, eq-eqb, ne_eqb, eqb-false, ltb-false, or_parts}
use Rattle.std.proofs.lemmas.List.{get_or_append_left, get_or-append_right}
use Rattle.ns_base.specs.Answers.{limit_of}
use Rattle.ns_base.specs.declared.answers.Counted.TheVariants.{Units, Handlers}
use Rattle.dex_bytes.specs.declared.fault.DexFault.TheVariants.{Short, Registers, TryRange, HandlerOffset, Limit}
use Rattle.dex_bytes.specs.Places.{uleb_value}
use Rattle.dex_tables.specs.Reading.{◌>>=◌, list_below, joined_below}
use Rattle.dex_code.specs.declared.code.Handler.{Handler}
use Rattle.dex_code.specs.declared.code.TryRow.{TryRow}
use Rattle.dex_code.specs.CodeItem.{code_registers, code_ins, code_outs, code_tries, code_len, code_unit, try_place, try_start, try_count, covered_before, handlers_place}
use Rattle.dex_code.specs.HandlerPart.{list_place, BeginsList, IsHandlerPart, handler_count, handler_of, IsSoundHandler, try_list, handlers_before, try_row}
use Rattle.dex_code.specs.Content.{CodeContent, AreHandlers, IsCodeOf}
use Rattle.dex_code.specs.Reading.{front_at, is_range_bad, range_at, ranges_at, starts_at, with_handlers, ReadTries, bounds_of, row_with, with_try, no_tries, rows_at, tries_at, code_at}
use Rattle.dex_code.proofs.HandlerLists.{HasHandlers, handlers_read, starts_read, begins}
use Rattle.dex_code.proofs.Ranges.{bind_ok, else_ok, then_ok, ok_same, below_next, length-list_below, get_list_below, rows_from}

-- the front and the units lie in the file
pub record IsFront (bs : List ℕ) (p len : ℕ) : Type 0 where
  pub front : p + 16 ≤ length bs
  pub room : code_ins bs p ≤ code_registers bs p
  pub in_file : p + 16 + 2 * code_len bs p ≤ length bs
  pub limit : code_len bs p ≤ limit_of Units
  pub count : len ≡ code_len bs p

front_read : (bs : List ℕ) (p len : ℕ) → front_at bs p ≡ Ok len → IsFront bs p len
unfolding front_at
front_read bs p len h =
    let a = else_ok (nat_lt (length bs) (p + 16)) (Short p) _ len h in
    let b = else_ok (nat_lt (code_registers bs p) (code_ins bs p)) (Registers p) _ len a.1 in
    let c = else_ok (nat_lt (length bs) (p + 16 + 2 * code_len bs p)) (Short (p + 16)) _ len b.1 in
    let d = else_ok (nat_lt (limit_of Units) (code_len bs p)) (Limit Units) _ len c.1 in
    record {
      front = ltb-false _ _ a.0;
      room = ltb-false _ _ b.0;
      in_file = ltb-false _ _ c.0;
      limit = ltb-false _ _ d.0;
      count = sym (ok_same _ _ d.1);
    }

-- the range of try t is good
pub record IsRange (bs : List ℕ) (p t : ℕ) : Type 0 where
  pub in_file : try_place bs p t + 8 ≤ length bs
  pub some : 0 < try_count bs p t
  pub within : try_start bs p t + try_count bs p t ≤ code_len bs p
  pub behind : covered_before bs p t ≤ try_start bs p t

range_read : (bs : List ℕ) (p t n : ℕ) → range_at bs p t ≡ Ok n → IsRange bs p t
unfolding range_at
range_read bs p t n h =
    let a = else_ok (nat_lt (length bs) (try_place bs p t + 8)) (Short (try_place bs p t)) _ n h in
    let b = else_ok (is_range_bad bs p t) (TryRange (try_place bs p t)) _ n a.1 in
    let c = or_parts _ _ b.0 in
    let d = or_parts _ _ c.0 in
    let ne = eqb-false (try_count bs p t) 0 d.0 in
    record {
      in_file = ltb-false _ _ a.0;
      some = omega (arith, ne);
      within = ltb-false _ _ d.1;
      behind = ltb-false _ _ c.1;
    }

ranges_read : (bs : List ℕ) (p n m : ℕ) → ranges_at bs p n ≡ Ok m → (t : ℕ) → t < n → IsRange bs p t
ranges_read bs p zero m h t low = absurd (omega arith)
ranges_read bs p (suc n) m h t low =
    let a = bind_ok (ranges_at bs p n) _ m h in
    below_next (IsRange bs p) n (λ i below. ranges_read bs p n a.0 a.1 i below) (range_read bs p n m a.2) t low

-- the handlers of try t
abbrev pub handlers_of : List ℕ → ℕ → ℕ → List Handler
handlers_of bs p t = list_below (handler_of bs (try_list bs p t)) (handler_count bs (try_list bs p t))

-- the handlers of try t are there
pub record IsHandledTry (bs : List ℕ) (p t : ℕ) : Type 0 where
  pub list : BeginsList bs (handlers_place bs p) (try_list bs p t)
  pub handlers : (k : ℕ) → k < handler_count bs (try_list bs p t) → IsSoundHandler bs p (try_list bs p t) k

-- so many tries were read
pub record HasTries (bs : List ℕ) (p n : ℕ) (x : ReadTries) : Type 0 where
  pub tries : x.tries ≡ list_below (try_row bs p) n
  pub handlers : x.handlers ≡ joined_below (handlers_of bs p) n
  pub sound : (t : ℕ) → t < n → IsHandledTry bs p t
  pub limit : length x.handlers ≤ limit_of Handlers

pub length-joined : (bs : List ℕ) (p n : ℕ) → length (joined_below (handlers_of bs p) n) ≡ handlers_before bs p n
length-joined bs p zero = refl
length-joined bs p (suc n) = omega (arith, length-append (joined_below (handlers_of bs p) n) (handlers_of bs p n), length-joined bs p n, length-list_below (handler_of bs (try_list bs p n)) (handler_count bs (try_list bs p n)))

pub same_row : (start count at at' len len' : ℕ) → at ≡ at' → len ≡ len' → ◌≡◌ {A = TryRow} (record { start = start; count = count; handlers = record { at = at; len = len } }) (record { start = start; count = count; handlers = record { at = at'; len = len' } })
same_row start count at at' len len' e f = rw (e, f) refl

pushed : {T : Type 0} (xs ys : List T) (x y : T) → xs ≡ ys → x ≡ y → xs ++ x ∷ [] ≡ ys ++ y ∷ []
pushed xs ys x y e f = rw (e, f) refl

handlers_limit : (n m count limit : ℕ) → m ≡ n + count → n ≤ limit → (0 < count → n + count ≤ limit) → m ≤ limit
handlers_limit n m count limit e low more = grind arith

-- one try more
tries_made : (bs : List ℕ) (p n : ℕ) (x y : ReadTries) (all : List Handler) → HasTries bs p n x → BeginsList bs (handlers_place bs p) (try_list bs p n) → HasHandlers bs (bounds_of bs p) (try_list bs p n) x.handlers all
    → y ≡ record { tries = x.tries ++ row_with bs p n (length x.handlers) (length all) ∷ []; handlers = all } → HasTries bs p (suc n) y
tries_made bs p n x y all has begun handled is =
    let before : length x.handlers ≡ handlers_before bs p n = ap (λ (l : List Handler). length l) has.handlers ∙ length-joined bs p n in
    let now : length all ≡ length x.handlers + handler_count bs (try_list bs p n) = ap (λ (l : List Handler). length l) handled.added ∙ length-append x.handlers (handlers_of bs p n) ∙ ap (λ (m : ℕ). length x.handlers + m) (length-list_below (handler_of bs (try_list bs p n)) (handler_count bs (try_list bs p n))) in
    let row : row_with bs p n (length x.handlers) (length all) ≡ try_row bs p n = same_row (try_start bs p n) (try_count bs p n) _ _ _ _ before (omega (arith, now)) in
    rw is (record {
      tries = pushed _ _ _ _ has.tries row;
      handlers = handled.added ∙ ap (λ (l : List Handler). l ++ handlers_of bs p n) has.handlers;
      sound = below_next (IsHandledTry bs p) n has.sound (record {
        list = begun;
        handlers = λ k low. record { caught = handled.caught k; target = handled.target k low };
      });
      limit = handlers_limit (length x.handlers) (length all) (handler_count bs (try_list bs p n)) (limit_of Handlers) now has.limit handled.limit;
    })

begins_list : (bs : List ℕ) (p q : ℕ) (starts : List ℕ) → starts ≡ list_below (list_place bs (handlers_place bs p)) (uleb_value bs (handlers_place bs p)) → list_any (λ x. x == q) starts ≡ true → BeginsList bs (handlers_place bs p) q
begins_list bs p q starts are h = begins (list_place bs (handlers_place bs p)) (uleb_value bs (handlers_place bs p)) q (rw are at h)

tries_next : (bs : List ℕ) (p : ℕ) (starts : List ℕ) (n : ℕ) (x y : ReadTries) → starts ≡ list_below (list_place bs (handlers_place bs p)) (uleb_value bs (handlers_place bs p)) → HasTries bs p n x → with_try bs p starts n x ≡ Ok y → HasTries bs p (suc n) y
unfolding with_try
tries_next bs p starts n x y are has h =
    let a = then_ok (list_any (λ q. q == try_list bs p n) starts) (HandlerOffset (try_place bs p n)) _ y h in
    let b = bind_ok (with_handlers bs (bounds_of bs p) n (try_list bs p n) x.handlers) _ y a.1 in
    tries_made bs p n x y b.0 has (begins_list bs p (try_list bs p n) starts are a.0) (handlers_read bs (bounds_of bs p) n (try_list bs p n) x.handlers b.0 b.1) (sym (ok_same _ _ b.2))

none_yet : (bs : List ℕ) (p : ℕ) → HasTries bs p 0 no_tries
none_yet bs p = record { tries = refl; handlers = refl; sound = λ t low. absurd (omega arith); limit = omega arith }

rows_read : (bs : List ℕ) (p : ℕ) (starts : List ℕ) (n : ℕ) (y : ReadTries) → starts ≡ list_below (list_place bs (handlers_place bs p)) (uleb_value bs (handlers_place bs p)) → rows_at bs p starts n ≡ Ok y → HasTries bs p n y
rows_read bs p starts zero y are h = subst (HasTries bs p 0) (ok_same _ _ h) (none_yet bs p)
rows_read bs p starts (suc n) y are h =
    let a = bind_ok (rows_at bs p starts n) _ y h in
    tries_next bs p starts n a.0 y are (rows_read bs p starts n a.0 are a.1) a.2

-- the tries of a code item were read
pub record AreTries (bs : List ℕ) (p : ℕ) (x : ReadTries) : Type 0 where
  pub part : 0 < code_tries bs p → IsHandlerPart bs (handlers_place bs p)
  pub ranges : (t : ℕ) → t < code_tries bs p → IsRange bs p t
  pub rows : HasTries bs p (code_tries bs p) x

some_tries : (bs : List ℕ) (p : ℕ) (x : ReadTries) → (ranges_at bs p (code_tries bs p) >>= λ _. starts_at bs (handlers_place bs p) >>= λ starts. rows_at bs p starts (code_tries bs p)) ≡ Ok x → AreTries bs p x
some_tries bs p x h =
    let a = bind_ok (ranges_at bs p (code_tries bs p)) _ x h in
    let b = bind_ok (starts_at bs (handlers_place bs p)) _ x a.2 in
    let starts = starts_read bs (handlers_place bs p) b.0 b.1 in
    record {
      part = λ _. starts.0;
      ranges = ranges_read bs p (code_tries bs p) a.0 a.1;
      rows = rows_read bs p b.0 (code_tries bs p) x starts.1 b.2;
    }

without_tries : (bs : List ℕ) (p : ℕ) (x : ReadTries) → code_tries bs p ≡ 0 → no_tries ≡ x → AreTries bs p x
without_tries bs p x none is = record {
  part = λ some. absurd (omega arith);
  ranges = λ t low. absurd (omega arith);
  rows = rw none (subst (HasTries bs p 0) is (none_yet bs p));
}

tries_read : (bs : List ℕ) (p : ℕ) (x : ReadTries) → tries_at bs p ≡ Ok x → AreTries bs p x
unfolding tries_at
tries_read bs p x h =
    elim (cases_eq (code_tries bs p) 0) [
      | inl z ↦ without_tries bs p x z (ok_same _ _ (rw (eq-eqb (code_tries bs p) 0 z) at h))
      | inr some ↦ some_tries bs p x (rw (ne_eqb (code_tries bs p) 0 some) at h)
    ]

before_add : (bs : List ℕ) (p t k : ℕ) → handlers_before bs p t + handler_count bs (try_list bs p t) ≤ handlers_before bs p (k + suc t)
before_add bs p t zero = let e : 0 + suc t ≡ suc t = omega arith in omega (arith, ap (handlers_before bs p) e)
before_add bs p t (suc k) =
    let e : suc k + suc t ≡ suc (k + suc t) = omega arith in
    omega (arith, ap (handlers_before bs p) e, before_add bs p t k)

-- the handlers of a try end before those of a later one
pub before_more : (bs : List ℕ) (p t n : ℕ) → t < n → handlers_before bs p t + handler_count bs (try_list bs p t) ≤ handlers_before bs p n
before_more bs p t n low =
    let e : (n - suc t) + suc t ≡ n = omega arith in
    omega (arith, ap (handlers_before bs p) e, before_add bs p t (n - suc t))

joined_last : (bs : List ℕ) (p n t k : ℕ) (d : Handler) → t ≡ n → k < handler_count bs (try_list bs p t) → get_or (joined_below (handlers_of bs p) n ++ handlers_of bs p n) (handlers_before bs p t + k) d ≡ handler_of bs (try_list bs p t) k
joined_last bs p n t k d e within =
    let P : ℕ → Type 0 = λ i. get_or (joined_below (handlers_of bs p) i ++ handlers_of bs p i) (handlers_before bs p t + k) d ≡ handler_of bs (try_list bs p t) k in
    let place : handlers_before bs p t + k - handlers_before bs p t ≡ k = omega arith in
    subst P e
    (get_or-append_right (joined_below (handlers_of bs p) t) (handlers_of bs p t) (handlers_before bs p t) (handlers_before bs p t + k) d (length-joined bs p t) (omega arith)
    ∙ ap (λ (i : ℕ). get_or (handlers_of bs p t) i d) place
    ∙ get_list_below (handler_of bs (try_list bs p t)) (handler_count bs (try_list bs p t)) k d within)

-- where the handlers of a try stand among all
pub joined_get : (bs : List ℕ) (p n t k : ℕ) (d : Handler) → t < n → k < handler_count bs (try_list bs p t) → get_or (joined_below (handlers_of bs p) n) (handlers_before bs p t + k) d ≡ handler_of bs (try_list bs p t) k
joined_get bs p zero t k d low within = absurd (omega arith)
joined_get bs p (suc n) t k d low within =
    elim (cases_lt t n) [
      | inl h ↦ (let front : handlers_before bs p t + k < length (joined_below (handlers_of bs p) n) = omega (arith, length-joined bs p n, before_more bs p t n h) in
          get_or_append_left (joined_below (handlers_of bs p) n) (handlers_of bs p n) d (handlers_before bs p t + k) front ∙ joined_get bs p n t k d h within)
      | inr h ↦ (let last : t ≡ n = omega arith in
          joined_last bs p n t k d last within)
    ]

pub are_handlers : (bs : List ℕ) (p : ℕ) (handlers : List Handler) → handlers ≡ joined_below (handlers_of bs p) (code_tries bs p) → AreHandlers bs p handlers
are_handlers bs p handlers e = rw e (record {
  count = length-joined bs p (code_tries bs p);
  each = λ t k d low within. joined_get bs p (code_tries bs p) t k d low within;
})

code_made : (bs : List ℕ) (p len : ℕ) (x : ReadTries) (code : CodeContent) → IsFront bs p len → AreTries bs p x
    → ◌≡◌ {A = CodeContent} (record { registers = code_registers bs p; ins = code_ins bs p; outs = code_outs bs p; units = list_below (code_unit bs p) len; tries = x.tries; handlers = x.handlers }) code → IsCodeOf bs p code
code_made bs p len x code front are is =
    let tries : code.tries ≡ list_below (try_row bs p) (code_tries bs p) = sym (ap (λ (c : CodeContent). c.tries) is) ∙ are.rows.tries in
    let handlers : x.handlers ≡ code.handlers = ap (λ (c : CodeContent). c.handlers) is in
    let units : code.units ≡ list_below (code_unit bs p) (code_len bs p) = sym (ap (λ (c : CodeContent). c.units) is) ∙ ap (list_below (code_unit bs p)) front.count in
    record {
      front = front.front;
      registers = sym (ap (λ (c : CodeContent). c.registers) is);
      ins = sym (ap (λ (c : CodeContent). c.ins) is);
      outs = sym (ap (λ (c : CodeContent). c.outs) is);
      room = front.room;
      in_file = front.in_file;
      unit_limit = front.limit;
      units = rows_from code.units (code_len bs p) (code_unit bs p) units;
      part = are.part;
      sound = λ t low. let range : IsRange bs p t = are.ranges t low in let handled : IsHandledTry bs p t = are.rows.sound t low in record {
        in_file = range.in_file;
        some = range.some;
        within = range.within;
        behind = range.behind;
        list = handled.list;
        handlers = handled.handlers;
      };
      tries = rows_from code.tries (code_tries bs p) (try_row bs p) tries;
      handlers = are_handlers bs p code.handlers (sym handlers ∙ are.rows.handlers);
      handler_limit = subst (λ (l : List Handler). length l ≤ limit_of Handlers) handlers are.rows.limit;
    }

pub code_read : (bs : List ℕ) (p : ℕ) (code : CodeContent) → code_at bs p ≡ Ok code → IsCodeOf bs p code
unfolding code_at
code_read bs p code h =
    let a = bind_ok (front_at bs p) _ code h in
    let b = bind_ok (tries_at bs p) _ code a.2 in
    code_made bs p a.0 b.0 code (front_read bs p a.0 a.1) (tries_read bs p b.0 b.1) (ok_same _ _ b.2)
