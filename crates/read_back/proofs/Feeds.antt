-- The head of a report has no line feed but at its end.
use Rattle.std.proofs.Common.{◌≡◌, ℕ, zero, suc, ◌+◌, Bool, true, false, if◌then◌else◌, List, [], ◌∷◌, ◌++◌, Option, Some, None, refl, subst, arith}
use Rattle.std.specs.Prelude.{◌==◌, ◌/◌, ◌%◌, nat_lt, slice_get, slice_index_or, codes}
use Rattle.std.proofs.lemmas.Bool.{ne_eqb}
use Rattle.app_model.specs.Components.{ComponentParts, callbacks_of}
use Rattle.app_model.specs.declared.rows.FieldRow.{FieldRow}
use Rattle.app_model.specs.Names.{name_text}
use Rattle.app_model.specs.Parts.{AppParts}
use Rattle.app_model.specs.Shown.{field_of, field_text, hex_digit, is_graphic, lock_text, member_text, shown, shown_byte}
use Rattle.app_model.specs.Slots.{class_text}
use Rattle.flow_model.specs.declared.policy.Violation.{Violation}
use Rattle.path_reader.specs.Texts.{NoFeed}
use Rattle.report_text.specs.Heads.{callback_of, callback_text, status_name, violation_text}

-- ---- lists
pub feeds_append : (xs ys : List ℕ) → NoFeed xs → NoFeed ys → NoFeed (xs ++ ys)
feeds_append [] ys none more = more
feeds_append (x ∷ xs) ys none more = (none.0, feeds_append xs ys none.1 more)

-- ---- names as they are shown
digit : (n : ℕ) → (hex_digit n == 10) ≡ false
digit n = go (nat_lt n 10)
  where
    go : (b : Bool) → ((if b then 48 + n else 87 + n) == 10) ≡ false
    go true = ne_eqb (48 + n) 10 (λ e. omega (arith, e))
    go false = ne_eqb (87 + n) 10 (λ e. omega (arith, e))

byte_feeds : (b : ℕ) (test : Bool) → is_graphic b ≡ test → NoFeed (if test then b ∷ [] else 92 ∷ 120 ∷ hex_digit (b / 16) ∷ hex_digit (b % 16) ∷ [])
byte_feeds b true is = (not_feed b is, tt)
  where
    not_feed : (b : ℕ) → is_graphic b ≡ true → (b == 10) ≡ false
    not_feed b is = ne_eqb b 10 (λ e. (let at : is_graphic 10 ≡ true = subst (λ (n : ℕ). is_graphic n ≡ true) e is in cc))
byte_feeds b false is = (refl, (refl, (digit (b / 16), (digit (b % 16), tt))))

shown_feeds : (name : List ℕ) → NoFeed (shown name)
shown_feeds [] = tt
shown_feeds (b ∷ name) = feeds_append (shown_byte b) (shown name) (byte_feeds b (is_graphic b) refl) (shown_feeds name)

member_feeds : (class name : List ℕ) → NoFeed (member_text class name)
member_feeds class name = feeds_append (shown class ++ codes "->") (shown name) (feeds_append (shown class) (codes "->") (shown_feeds class) (refl, (refl, tt))) (shown_feeds name)

field_feeds : (app : AppParts) (field : Option FieldRow) → NoFeed (field_text app field)
field_feeds app None = tt
field_feeds app (Some field) = member_feeds (class_text app field.class.0) (name_text app field.name.0)

lock_feeds : (app : AppParts) (l : ℕ) → NoFeed (lock_text app l)
unfolding lock_text
lock_feeds app l = field_feeds app (field_of app (slice_get app.locks l))

-- ---- statuses and callbacks
status_feeds : (s : ℕ) → NoFeed (status_name s)
status_feeds zero = (refl, tt)
status_feeds (suc zero) = (refl, (refl, tt))
status_feeds (suc (suc zero)) = (refl, (refl, tt))
status_feeds (suc (suc (suc zero))) = (refl, (refl, tt))
status_feeds (suc (suc (suc (suc zero)))) = (refl, (refl, tt))
status_feeds (suc (suc (suc (suc (suc zero))))) = (refl, (refl, tt))
status_feeds (suc (suc (suc (suc (suc (suc zero)))))) = (refl, (refl, tt))
status_feeds (suc (suc (suc (suc (suc (suc (suc zero))))))) = (refl, tt)
status_feeds (suc (suc (suc (suc (suc (suc (suc (suc s)))))))) = tt

callback_feeds : (app : AppParts) (component : Option ComponentParts) (k : ℕ) → NoFeed (callback_of app component k)
callback_feeds app None k = tt
callback_feeds app (Some component) k = member_feeds (class_text app component.class.0) (slice_index_or (callbacks_of component.kind) k [])

callback_text_feeds : (app : AppParts) (list : List ComponentParts) (c k : ℕ) → NoFeed (callback_text app list c k)
unfolding callback_text
callback_text_feeds app list c k = callback_feeds app (slice_get list c) k

-- ---- a head
pub violation_feeds : (app : AppParts) (list : List ComponentParts) (v : Violation) → NoFeed (violation_text app list v)
unfolding violation_text
violation_feeds app list v =
    let lock = lock_feeds app v.lock in
    let is : NoFeed (lock_text app v.lock ++ codes " is ") = feeds_append (lock_text app v.lock) (codes " is ") lock (refl, (refl, (refl, (refl, tt)))) in
    let status : NoFeed (lock_text app v.lock ++ codes " is " ++ status_name v.status) = feeds_append (lock_text app v.lock ++ codes " is ") (status_name v.status) is (status_feeds v.status) in
    let after : NoFeed (lock_text app v.lock ++ codes " is " ++ status_name v.status ++ codes " after ") =
    feeds_append (lock_text app v.lock ++ codes " is " ++ status_name v.status) (codes " after ") status (refl, (refl, (refl, (refl, (refl, (refl, (refl, tt))))))) in
    feeds_append (lock_text app v.lock ++ codes " is " ++ status_name v.status ++ codes " after ") (callback_text app list v.component v.callback) after (callback_text_feeds app list v.component v.callback)
