-- Handler lists as they are read and by offsets.
use Rattle.std.proofs.Common.{◌≡◌, ℕ, ℤ, zero, suc, ◌+◌, ◌*◌, ◌<◌, ◌≤◌, inl, inr, List, [], ◌∷◌, ◌++◌, length, Bool, true, false, cond, nat_lt, ◌==◌, unsigned_abs, Option, Some, None, Ok, refl, sym, ap, subst, arith, ◌∙◌, length-append, append_assoc, append-nil}
use Rattle.std.specs.List.{list_any}
use Rattle.std.proofs.lemmas.Bool.{eqb-true, ltb-true, ltb-false, lt-ltb, le-ltb, or_cases}
use Rattle.std.proofs.lemmas.List.Folds.{list_any-append}
use Rattle.ns_base.specs.Answers.{limit_of}
use Rattle.ns_base.specs.declared.answers.Counted.TheVariants.{Handlers}
use Rattle.dex_bytes.specs.declared.fault.DexFault.TheVariants.{HandlerAddress, Index, Limit}
use Rattle.dex_bytes.specs.Leb128.{uleb_at, sleb_at}
use Rattle.dex_bytes.specs.Places.{IsUleb, uleb_value, uleb_next, number_at, number_place}
use Rattle.dex_bytes.proofs.Leb.{uleb_at-ok, IsUleb-ok, number_place-zero}
use Rattle.dex_tables.specs.Reading.{list_below}
use Rattle.dex_code.specs.declared.code.Handler.{Handler}
use Rattle.dex_code.specs.declared.handlers.Bounds.{Bounds}
use Rattle.dex_code.specs.HandlerPart.{signed_or, list_size, list_body, IsSized, has_catch_all, catch_alls, typed_count, handler_count, list_numbers, list_end, IsList, list_place, IsHandlerPart, address_number, handler_of}
use Rattle.dex_code.specs.Reading.{numbers_end, list_end_at, ReadLists, with_list, lists_at, starts_at, ReadHandlers, with_address, with_typed, all_typed, with_last, with_handlers}
use Rattle.dex_code.proofs.Entries.{IsRead, number_read}
use Rattle.dex_code.proofs.Ranges.{bind_ok, else_ok, then_ok, ok_same, below_next, length-list_below}

-- the size of a list was read
pub size_read : (bs : List ℕ) (q : ℕ) (r : ℤ × ℕ) → sleb_at bs q ≡ Ok r → IsSized bs q × (r ≡ (list_size bs q, list_body bs q))
unfolding IsSized list_size list_body
size_read bs q r h =
    let same : signed_or q (sleb_at bs q) ≡ r = ap (signed_or q) h in
    (h ∙ ap (λ (x : ℤ × ℕ). Ok x) (sym same), sym same)

-- so many numbers were read
pub numbers_read : (bs : List ℕ) (p n e : ℕ) → numbers_end bs p n ≡ Ok e → ((k : ℕ) → k < n → IsUleb bs (number_place bs p k)) × (e ≡ number_place bs p n)
numbers_read bs p zero e h = ((λ k low. absurd (omega arith)), sym (ok_same _ _ h) ∙ sym (number_place-zero bs p))
numbers_read bs p (suc n) e h =
    let a = bind_ok (numbers_end bs p n) _ e h in
    let earlier = numbers_read bs p n a.0 a.1 in
    let b = bind_ok (uleb_at bs a.0) _ e a.2 in
    let last : IsRead bs p n b.0 = number_read bs p n b.0 (subst (λ (q : ℕ). uleb_at bs q ≡ Ok b.0) earlier.1 b.1) in
    let next : n + 1 ≡ suc n = omega arith in
    (below_next (λ k. IsUleb bs (number_place bs p k)) n earlier.0 last.number, sym (ok_same _ _ b.2) ∙ last.next ∙ ap (number_place bs p) next)

numbers_after : (bs : List ℕ) (r : ℤ × ℕ) (size : ℤ) (body e : ℕ) → r ≡ (size, body) → numbers_end bs r.1 (2 * unsigned_abs r.0 + catch_alls r.0) ≡ Ok e → numbers_end bs body (2 * unsigned_abs size + catch_alls size) ≡ Ok e
numbers_after bs r size body e is h = rw is at h

-- a list was read
pub list_read : (bs : List ℕ) (q e : ℕ) → list_end_at bs q ≡ Ok e → IsList bs q × (e ≡ list_end bs q)
unfolding list_end_at list_end
list_read bs q e h =
    let a = bind_ok (sleb_at bs q) _ e h in
    let size = size_read bs q a.0 a.1 in
    let numbers = numbers_read bs (list_body bs q) (list_numbers bs q) e (numbers_after bs a.0 (list_size bs q) (list_body bs q) e size.1 a.2) in
    (record { size = size.0; numbers = numbers.0 }, numbers.1)

-- so many lists of the handler part at h were read
pub record HasLists (bs : List ℕ) (h n : ℕ) (x : ReadLists) : Type 0 where
  pub place : x.place ≡ list_place bs h n
  pub starts : x.starts ≡ list_below (list_place bs h) n
  pub lists : (j : ℕ) → j < n → IsList bs (list_place bs h j)

pushed : {T : Type 0} (xs ys : List T) (x y : T) → xs ≡ ys → x ≡ y → xs ++ x ∷ [] ≡ ys ++ y ∷ []
pushed xs ys x y e f = rw (e, f) refl

lists_next : (bs : List ℕ) (h n : ℕ) (x y : ReadLists) → HasLists bs h n x → with_list bs x ≡ Ok y → HasLists bs h (suc n) y
unfolding list_place
lists_next bs h n x y has one =
    let a = bind_ok (list_end_at bs x.place) _ y one in
    let list = list_read bs (list_place bs h n) a.0 (subst (λ (q : ℕ). list_end_at bs q ≡ Ok a.0) has.place a.1) in
    let is = ok_same _ _ a.2 in
    record {
      place = sym (ap (λ (z : ReadLists). z.place) is) ∙ list.1;
      starts = sym (ap (λ (z : ReadLists). z.starts) is) ∙ pushed _ _ _ _ has.starts has.place;
      lists = below_next (λ j. IsList bs (list_place bs h j)) n has.lists list.0;
    }

no_lists : (bs : List ℕ) (h : ℕ) → HasLists bs h 0 (record { place = list_place bs h 0; starts = [] })
no_lists bs h = record { place = refl; starts = refl; lists = λ j low. absurd (omega arith) }

pub lists_read : (bs : List ℕ) (h n : ℕ) (x : ReadLists) → lists_at bs (list_place bs h 0) n ≡ Ok x → HasLists bs h n x
lists_read bs h zero x e = subst (HasLists bs h 0) (ok_same _ _ e) (no_lists bs h)
lists_read bs h (suc n) x e =
    let a = bind_ok (lists_at bs (list_place bs h 0) n) _ x e in
    lists_next bs h n a.0 x (lists_read bs h n a.0 a.1) a.2

pub list_place-zero : (bs : List ℕ) (h : ℕ) → list_place bs h 0 ≡ uleb_next bs h
unfolding list_place
list_place-zero bs h = refl

lists_after : (bs : List ℕ) (r : ℕ × ℕ) (count place : ℕ) (x : ReadLists) → r ≡ (count, place) → lists_at bs r.1 r.0 ≡ Ok x → lists_at bs place count ≡ Ok x
lists_after bs r count place x is h = rw is at h

-- a handler part was read
pub starts_read : (bs : List ℕ) (h : ℕ) (starts : List ℕ) → starts_at bs h ≡ Ok starts → IsHandlerPart bs h × (starts ≡ list_below (list_place bs h) (uleb_value bs h))
unfolding starts_at
starts_read bs h starts e =
    let a = bind_ok (uleb_at bs h) _ starts e in
    let count = uleb_at-ok bs h a.0 a.1 in
    let b = bind_ok (lists_at bs a.0.1 a.0.0) _ starts a.2 in
    let lists = lists_read bs h (uleb_value bs h) b.0 (rw list_place-zero (lists_after bs a.0 (uleb_value bs h) (uleb_next bs h) b.0 count b.1)) in
    (record { count = IsUleb-ok bs h a.0 a.1; lists = lists.lists }, sym (ok_same _ _ b.2) ∙ lists.starts)

-- which of them begins at a place
pub begins : (f : ℕ → ℕ) (n x : ℕ) → list_any (λ q. q == x) (list_below f n) ≡ true → (j : ℕ) × (j < n) × (f j ≡ x)
begins f zero x h = absurd (let no : ⊥ = cc in no)
begins f (suc n) x h =
    elim (or_cases _ _ (sym (list_any-append (λ q. q == x) (list_below f n) (f n ∷ [])) ∙ h)) [
      | inl e ↦ (let earlier = begins f n x e in (earlier.0, omega (arith, earlier.1), earlier.2))
      | inr e ↦ elim (or_cases _ _ e) [
        | inl g ↦ (n, omega arith, eqb-true (f n) x g)
        | inr g ↦ absurd (let no : ⊥ = cc in no)
      ]
    ]

-- a handler with its address in number m was read
pub record IsHandled (bs : List ℕ) (bounds : Bounds) (caught : Option ℕ) (body m : ℕ) (handlers : List Handler) (r : ReadHandlers) : Type 0 where
  pub within : number_at bs body m < bounds.units
  pub room : length handlers + 1 ≤ limit_of Handlers
  pub place : r.place ≡ number_place bs body (m + 1)
  pub added : r.handlers ≡ handlers ++ record { caught = caught; target = number_at bs body m } ∷ []

same_handler : (caught : Option ℕ) (a b : ℕ) (handlers : List Handler) → a ≡ b → handlers ++ record { caught = caught; target = a } ∷ [] ≡ handlers ++ record { caught = caught; target = b } ∷ []
same_handler caught a b handlers e = rw e refl

address_read : (bs : List ℕ) (bounds : Bounds) (caught : Option ℕ) (body m : ℕ) (handlers : List Handler) (r : ReadHandlers) → with_address bs bounds caught (number_place bs body m) handlers ≡ Ok r → IsHandled bs bounds caught body m handlers r
unfolding with_address
address_read bs bounds caught body m handlers r h =
    let a = bind_ok (uleb_at bs (number_place bs body m)) _ r h in
    let read : IsRead bs body m a.0 = number_read bs body m a.0 a.1 in
    let b = then_ok (nat_lt a.0.0 bounds.units) (HandlerAddress (number_place bs body m)) _ r a.2 in
    let c = else_ok (nat_lt (limit_of Handlers) (length handlers + 1)) (Limit Handlers) _ r b.1 in
    let is = ok_same _ _ c.1 in
    record {
      within = subst (λ (n : ℕ). n < bounds.units) read.value (ltb-true _ _ b.0);
      room = ltb-false _ _ c.0;
      place = sym (ap (λ (x : ReadHandlers). x.place) is) ∙ read.next;
      added = sym (ap (λ (x : ReadHandlers). x.handlers) is) ∙ same_handler caught _ _ handlers read.value;
    }

-- a handler of one type that begins with number m was read
typed_one : (bs : List ℕ) (bounds : Bounds) (t body m : ℕ) (x r : ReadHandlers) → x.place ≡ number_place bs body m → with_typed bs bounds t x ≡ Ok r
    → (number_at bs body m < bounds.types) × IsHandled bs bounds (Some (number_at bs body m)) body (m + 1) x.handlers r
unfolding with_typed
typed_one bs bounds t body m x r at h =
    let a = bind_ok (uleb_at bs x.place) _ r h in
    let read : IsRead bs body m a.0 = number_read bs body m a.0 (subst (λ (q : ℕ). uleb_at bs q ≡ Ok a.0) at a.1) in
    let b = then_ok (nat_lt a.0.0 bounds.types) (Index 1 t a.0.0) _ r a.2 in
    let one : with_address bs bounds (Some (number_at bs body m)) (number_place bs body (m + 1)) x.handlers ≡ Ok r = rw (← read.value, ← read.next) b.1 in
    (subst (λ (n : ℕ). n < bounds.types) read.value (ltb-true _ _ b.0), address_read bs bounds (Some (number_at bs body m)) body (m + 1) x.handlers r one)

-- handler k of those with a type
abbrev pub typed_handler : List ℕ → ℕ → ℕ → Handler
typed_handler bs body k = record { caught = Some (number_at bs body (2 * k)); target = number_at bs body (2 * k + 1) }

-- so many of them were read
pub record HasTyped (bs : List ℕ) (bounds : Bounds) (body : ℕ) (handlers : List Handler) (n : ℕ) (r : ReadHandlers) : Type 0 where
  pub place : r.place ≡ number_place bs body (2 * n)
  pub added : r.handlers ≡ handlers ++ list_below (typed_handler bs body) n
  pub sound : (k : ℕ) → k < n → (number_at bs body (2 * k) < bounds.types) × (number_at bs body (2 * k + 1) < bounds.units)
  pub limit : 0 < n → length handlers + n ≤ limit_of Handlers

added_more : {T : Type 0} (xs ys : List T) (f : ℕ → T) (n : ℕ) (zs : List T) → ys ≡ xs ++ list_below f n → zs ≡ ys ++ f n ∷ [] → zs ≡ xs ++ list_below f (suc n)
added_more xs ys f n zs e g = g ∙ ap (λ (l : List _). l ++ f n ∷ []) e ∙ append_assoc xs (list_below f n) (f n ∷ [])

length_added : {T : Type 0} (xs ys : List T) (f : ℕ → T) (n : ℕ) → ys ≡ xs ++ list_below f n → length ys ≡ length xs + n
length_added xs ys f n e = omega (arith, ap (λ (l : List _). length l) e, length-append xs (list_below f n), length-list_below f n)

typed_next : (bs : List ℕ) (bounds : Bounds) (t body : ℕ) (handlers : List Handler) (n : ℕ) (x r : ReadHandlers) → HasTyped bs bounds body handlers n x → with_typed bs bounds t x ≡ Ok r → HasTyped bs bounds body handlers (suc n) r
typed_next bs bounds t body handlers n x r has h =
    let one = typed_one bs bounds t body (2 * n) x r has.place h in
    let next : 2 * n + 1 + 1 ≡ 2 * suc n = omega arith in
    record {
      place = one.1.place ∙ ap (number_place bs body) next;
      added = added_more handlers x.handlers (typed_handler bs body) n r.handlers has.added one.1.added;
      sound = below_next (λ k. (number_at bs body (2 * k) < bounds.types) × (number_at bs body (2 * k + 1) < bounds.units)) n has.sound (one.0, one.1.within);
      limit = λ _. omega (arith, one.1.room, length_added handlers x.handlers (typed_handler bs body) n has.added);
    }

no_typed : (bs : List ℕ) (bounds : Bounds) (body : ℕ) (handlers : List Handler) → HasTyped bs bounds body handlers 0 (record { place = body; handlers = handlers })
no_typed bs bounds body handlers = record {
  place = sym (number_place-zero bs body);
  added = sym (append-nil handlers);
  sound = λ k low. absurd (omega arith);
  limit = λ some. absurd (omega arith);
}

typed_read : (bs : List ℕ) (bounds : Bounds) (t body : ℕ) (handlers : List Handler) (n : ℕ) (r : ReadHandlers) → all_typed bs bounds t body handlers n ≡ Ok r → HasTyped bs bounds body handlers n r
typed_read bs bounds t body handlers zero r h = subst (HasTyped bs bounds body handlers 0) (ok_same _ _ h) (no_typed bs bounds body handlers)
typed_read bs bounds t body handlers (suc n) r h =
    let a = bind_ok (all_typed bs bounds t body handlers n) _ r h in
    typed_next bs bounds t body handlers n a.0 r (typed_read bs bounds t body handlers n a.0 a.1) a.2

-- the handlers of the list at q were read, behind others
pub record HasHandlers (bs : List ℕ) (bounds : Bounds) (q : ℕ) (handlers all : List Handler) : Type 0 where
  pub added : all ≡ handlers ++ list_below (handler_of bs q) (handler_count bs q)
  pub caught : (k : ℕ) → k < typed_count bs q → number_at bs (list_body bs q) (2 * k) < bounds.types
  pub target : (k : ℕ) → k < handler_count bs q → number_at bs (list_body bs q) (address_number bs q k) < bounds.units
  pub limit : 0 < handler_count bs q → length handlers + handler_count bs q ≤ limit_of Handlers

pub list_below_same : {T : Type 0} (f g : ℕ → T) (n : ℕ) → ((k : ℕ) → k < n → f k ≡ g k) → list_below f n ≡ list_below g n
list_below_same f g zero same = refl
list_below_same f g (suc n) same = rw (list_below_same f g n (λ k low. same k (omega arith)), same n (omega arith)) refl

-- a handler of the list that has a type, and the one that has none
pub handler_typed : (bs : List ℕ) (q k : ℕ) → k < typed_count bs q → typed_handler bs (list_body bs q) k ≡ handler_of bs q k
handler_typed bs q k low = let test : nat_lt k (typed_count bs q) ≡ true = lt-ltb _ _ low in rw test refl

pub handler_last : (bs : List ℕ) (q : ℕ) → ◌≡◌ {A = Handler} (record { caught = None; target = number_at bs (list_body bs q) (2 * typed_count bs q) }) (handler_of bs q (typed_count bs q))
handler_last bs q = let test : nat_lt (typed_count bs q) (typed_count bs q) ≡ false = le-ltb _ _ (omega arith) in rw test refl

pub address_typed : (bs : List ℕ) (q k : ℕ) → k < typed_count bs q → address_number bs q k ≡ 2 * k + 1
address_typed bs q k low = let test : nat_lt k (typed_count bs q) ≡ true = lt-ltb _ _ low in rw test refl

pub address_last : (bs : List ℕ) (q : ℕ) → address_number bs q (typed_count bs q) ≡ 2 * typed_count bs q
address_last bs q = let test : nat_lt (typed_count bs q) (typed_count bs q) ≡ false = le-ltb _ _ (omega arith) in rw test refl

typed_targets : (bs : List ℕ) (bounds : Bounds) (q : ℕ) (handlers : List Handler) (x : ReadHandlers) → HasTyped bs bounds (list_body bs q) handlers (typed_count bs q) x → (k : ℕ) → k < typed_count bs q → number_at bs (list_body bs q) (address_number bs q k) < bounds.units
typed_targets bs bounds q handlers x has k low = rw (address_typed bs q k low) (has.sound k low).1

-- as many as have a type
typed_added : (bs : List ℕ) (bounds : Bounds) (q : ℕ) (handlers : List Handler) (x : ReadHandlers) → HasTyped bs bounds (list_body bs q) handlers (typed_count bs q) x → x.handlers ≡ handlers ++ list_below (handler_of bs q) (typed_count bs q)
typed_added bs bounds q handlers x has = has.added ∙ ap (λ (l : List Handler). handlers ++ l) (list_below_same (typed_handler bs (list_body bs q)) (handler_of bs q) (typed_count bs q) (handler_typed bs q))

without_last : (bs : List ℕ) (bounds : Bounds) (q : ℕ) (handlers : List Handler) (x : ReadHandlers) → has_catch_all (list_size bs q) ≡ false → HasTyped bs bounds (list_body bs q) handlers (typed_count bs q) x → HasHandlers bs bounds q handlers x.handlers
without_last bs bounds q handlers x none has =
    let count : handler_count bs q ≡ typed_count bs q = rw none (omega arith) in
    record {
      added = rw count (typed_added bs bounds q handlers x has);
      caught = λ k low. (has.sound k low).0;
      target = λ k low. typed_targets bs bounds q handlers x has k (omega (arith, count));
      limit = λ some. omega (arith, has.limit (omega (arith, count)), count);
    }

with_one : (bs : List ℕ) (bounds : Bounds) (q : ℕ) (handlers : List Handler) (x r : ReadHandlers) → has_catch_all (list_size bs q) ≡ true → HasTyped bs bounds (list_body bs q) handlers (typed_count bs q) x → IsHandled bs bounds None (list_body bs q) (2 * typed_count bs q) x.handlers r → HasHandlers bs bounds q handlers r.handlers
with_one bs bounds q handlers x r one has last =
    let count : handler_count bs q ≡ suc (typed_count bs q) = rw one (omega arith) in
    let before = typed_added bs bounds q handlers x has in
    let behind : r.handlers ≡ x.handlers ++ handler_of bs q (typed_count bs q) ∷ [] = last.added ∙ ap (λ (y : Handler). x.handlers ++ y ∷ []) (handler_last bs q) in
    record {
      added = rw count (added_more handlers x.handlers (handler_of bs q) (typed_count bs q) r.handlers before behind);
      caught = λ k low. (has.sound k low).0;
      target = λ k low. below_next (λ i. number_at bs (list_body bs q) (address_number bs q i) < bounds.units) (typed_count bs q) (typed_targets bs bounds q handlers x has) (rw (address_last bs q) last.within) k (omega (arith, count));
      limit = λ _. omega (arith, last.room, length_added handlers x.handlers (handler_of bs q) (typed_count bs q) before, count);
    }

last_read : (bs : List ℕ) (bounds : Bounds) (q : ℕ) (handlers : List Handler) (x r : ReadHandlers) (b : Bool) → has_catch_all (list_size bs q) ≡ b → HasTyped bs bounds (list_body bs q) handlers (typed_count bs q) x
    → cond b (with_address bs bounds None x.place x.handlers) (Ok x) ≡ Ok r → HasHandlers bs bounds q handlers r.handlers
last_read bs bounds q handlers x r true one has h =
    let at : with_address bs bounds None (number_place bs (list_body bs q) (2 * typed_count bs q)) x.handlers ≡ Ok r = subst (λ (p : ℕ). with_address bs bounds None p x.handlers ≡ Ok r) has.place h in
    with_one bs bounds q handlers x r one has (address_read bs bounds None (list_body bs q) (2 * typed_count bs q) x.handlers r at)
last_read bs bounds q handlers x r false none has h =
    subst (λ (y : ReadHandlers). HasHandlers bs bounds q handlers y.handlers) (ok_same _ _ h) (without_last bs bounds q handlers x none has)

typed_after : (bs : List ℕ) (bounds : Bounds) (t : ℕ) (handlers : List Handler) (r : ℤ × ℕ) (size : ℤ) (body : ℕ) (x : ReadHandlers) → r ≡ (size, body) → all_typed bs bounds t r.1 handlers (unsigned_abs r.0) ≡ Ok x → all_typed bs bounds t body handlers (unsigned_abs size) ≡ Ok x
typed_after bs bounds t handlers r size body x is h = rw is at h

last_after : (bs : List ℕ) (bounds : Bounds) (x : ReadHandlers) (r : ℤ × ℕ) (size : ℤ) (body : ℕ) (y : ReadHandlers) → r ≡ (size, body) → with_last bs bounds r.0 x ≡ Ok y → with_last bs bounds size x ≡ Ok y
last_after bs bounds x r size body y is h = rw is at h

pub handlers_read : (bs : List ℕ) (bounds : Bounds) (t q : ℕ) (handlers all : List Handler) → with_handlers bs bounds t q handlers ≡ Ok all → HasHandlers bs bounds q handlers all
unfolding with_handlers
handlers_read bs bounds t q handlers all h =
    let a = bind_ok (sleb_at bs q) _ all h in
    let size = size_read bs q a.0 a.1 in
    let b = bind_ok (all_typed bs bounds t a.0.1 handlers (unsigned_abs a.0.0)) _ all a.2 in
    let typed = typed_read bs bounds t (list_body bs q) handlers (typed_count bs q) b.0 (typed_after bs bounds t handlers a.0 (list_size bs q) (list_body bs q) b.0 size.1 b.1) in
    let c = bind_ok (with_last bs bounds a.0.0 b.0) _ all b.2 in
    let last = last_read bs bounds q handlers b.0 c.0 (has_catch_all (list_size bs q)) refl typed (last_after bs bounds b.0 a.0 (list_size bs q) (list_body bs q) c.0 size.1 c.1) in
    subst (HasHandlers bs bounds q handlers) (ok_same _ _ c.2) last
