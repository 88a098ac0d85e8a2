-- Where the machine's calls lead, the targets of the call are.
use Rattle.std.proofs.Common.{◌≡◌, ℕ, zero, suc, ◌+◌, ◌<◌, ◌≤◌, ◌==◌, Bool, true, false, if◌then◌else◌, List, [], ◌∷◌, length, map, Option, Some, None, slice_get, get_or, refl, sym, ap, ap₂, ◌∙◌, arith, subst, subst₂, ⊎_elim}
use Rattle.std.specs.Prelude.{nat_lt, ◌||◌, not, filter, is_none, is_some, slice_index_or, Contains}
use Rattle.std.specs.List.{list_any, position_or_len, range_with_len}
use Rattle.std.proofs.lemmas.Bool.{and_parts, or_cases, or_right, cases_eq, cases_lt, eq-eqb, eqb-true, false≢true}
use Rattle.std.proofs.lemmas.Bool.Decides.{nat_tests}
use Rattle.std.proofs.lemmas.List.Sums.{fails_before_first}
use Rattle.std.proofs.lemmas.Option.{slice_get-get_or, slice_get_within}
use Rattle.std.proofs.lemmas.List.{get_or_past}
use Rattle.std.proofs.lemmas.List.Folds.{list_any-append}
use Rattle.std.proofs.lemmas.List.Quantifiers.{position-Some}
use Rattle.ns_base.specs.declared.rows.TypeNo.{TypeNo}
use Rattle.dalvik.specs.declared.opcode.TheConstants.{IF_EQZ, IF_NEZ, MONITOR_ENTER, MOVE_RESULT_WIDE}
use Rattle.dalvik.specs.declared.ins.Args.{Args}
use Rattle.dalvik.specs.declared.ins.Ins.{Ins}
use Rattle.dalvik.specs.declared.ins.Ins.TheVariants as ins
use Rattle.app_model.specs.declared.calls.By.{By}
use Rattle.app_model.specs.declared.calls.By.TheVariants.{Virtual, Super, Direct, Static}
use Rattle.app_model.specs.declared.lock_use.LockUse.{LockUse}
use Rattle.app_model.specs.declared.rows.Named.{Named}
use Rattle.app_model.specs.CallGraph.{TargetParts, targets_at}
use Rattle.app_model.specs.Hierarchy.{class_of_type, has_unknown_above, is_sub, line, line_of, lookup_of, may_be_sub, method_in, nearest}
use Rattle.app_model.specs.LockUse.{invoke_of, lock_use_at, use_by, use_of}
use Rattle.app_model.specs.Parts.{AppParts, ClassParts}
use Rattle.app_model.specs.Slots.{slot_at}
use Rattle.app_model.specs.Subject.{SubjectParts}
use Rattle.app_model.specs.Targets.{call_by, finds, found_above, found_by, found_of, found_on, is_foreign, is_method, is_on_array, is_plain, may_receive as may_receive_of, method_no, row_of, super_of, targets_by, targets_in, targets_of_call}
use Rattle.app_model.specs.Sound.{IsSoundApp}
use Rattle.app_model.specs.Words.{ins_at, ins_of, named_at, no_body, place_at, places_of}
use Rattle.dalvik.specs.declared.body.Place.{Place}
use Rattle.app_model.proofs.Invokes.{named_exact}
use Rattle.act_model.specs.declared.act.Act.{Act}
use Rattle.act_model.specs.declared.act.Act.TheVariants.{Go, Check, TakeResult, Test, Write, Call}
use Rattle.act_model.specs.declared.act.Throws.{Throws}
use Rattle.act_model.specs.declared.act.Throws.TheVariants.{Never, WhereZero}
use Rattle.act_model.specs.declared.act.Written.TheVariants as written
use Rattle.act_model.specs.declared.act.Gives.{Gives}
use Rattle.act_model.specs.Acts.{act_at, act_by, act_of, read_act, write_act}
use Rattle.flow_model.specs.TagFlow.{is_call}
use Rattle.run_model.specs.Calls.{GoesOutside, IsStuck, found_for, found_target, may_receive, named_target, target_of}
use Rattle.run_model.specs.Soundness.{FitsTarget}
use Rattle.app_model.specs.Ancestors.{IsAncestor, its_parent, further}
use Rattle.app_model.proofs.HierarchyLaws.{stands_above}
use Rattle.flow_model.proofs.Slots.{nearest_below}

-- ---- members
any_there : {X : Type 0} (p : X → Bool) (xs : List X) (k : ℕ) (x : X) → slice_get xs k ≡ Some x → p x ≡ true → list_any p xs ≡ true
any_there p [] k x at good = cc
any_there p (y ∷ ys) zero x at good = let same : y ≡ x = cc in rw (same, good) refl
any_there p (y ∷ ys) (suc k) x at good = rw (any_there p ys k x at good) (or_right (p y) true refl)

-- what a test finds among the images of those that pass another
any_mapped : {X Y : Type 0} (p : Y → Bool) (f : X → Y) (g : X → Bool) (xs : List X) (k : ℕ) (x : X) → slice_get xs k ≡ Some x → g x ≡ true → p (f x) ≡ true → list_any p (map f (filter g xs)) ≡ true
any_mapped p f g [] k x at passed good = cc
any_mapped p f g (y ∷ ys) zero x at passed good = let same : y ≡ x = cc in rw (same, passed, good) refl
any_mapped p f g (y ∷ ys) (suc k) x at passed good = by (g y) (any_mapped p f g ys k x at passed good)
  where
    by : (b : Bool) → list_any p (map f (filter g ys)) ≡ true → list_any p (map f (if b then y ∷ filter g ys else filter g ys)) ≡ true
    by true rest = or_right (p (f y)) (list_any p (map f (filter g ys))) rest
    by false rest = rest

contains_later : {X : Type 0} (y : X) (xs : List X) (x : X) → Contains xs x → Contains (y ∷ xs) x
contains_later y xs x c = (suc c.0, omega (arith, c.1), c.2)

in_rising : (test : ℕ → Bool) (a n k : ℕ) → a ≤ k → k < a + n → test k ≡ true → Contains (map method_no (filter test (range_with_len a n))) (method_no k)
in_rising test a zero k from below good = absurd (omega (arith, from, below))
in_rising test a (suc n) k from below good = ⊎_elim first (λ other. later (test a) (in_rising test (a + 1) n k (omega (arith, from, other)) (omega (arith, below)) good)) (cases_eq a k)
  where
    first : a ≡ k → Contains (map method_no (if test a then a ∷ filter test (range_with_len (a + 1) n) else filter test (range_with_len (a + 1) n))) (method_no k)
    first same = rw (same, good) (0, omega arith, refl)

    later : (b : Bool) → Contains (map method_no (filter test (range_with_len (a + 1) n))) (method_no k) → Contains (map method_no (if b then a ∷ filter test (range_with_len (a + 1) n) else filter test (range_with_len (a + 1) n))) (method_no k)
    later true c = contains_later (method_no a) (map method_no (filter test (range_with_len (a + 1) n))) (method_no k) c
    later false c = c

-- ---- types and classes
abbrev is_named : ℕ → ClassParts → Bool
is_named t class = class.name.0 == t

-- a class has that name; and where none has it
class_there : (classes : List ClassParts) (t c : ℕ) → class_of_type classes t ≡ Some c → (class : ClassParts) × (slice_get classes c ≡ Some class) × (class.name.0 ≡ t)
unfolding class_of_type
class_there classes t c is =
    let blank : ClassParts = record { name = record { 0 = 0 }; parent = None; interfaces = []; flags = 0 } in
    let found = position-Some (is_named t) classes c blank is in
    (get_or classes c blank, slice_get-get_or classes c blank found.0, eqb-true _ t found.1)

none_named : (classes : List ClassParts) (t : ℕ) → class_of_type classes t ≡ None → (k : ℕ) (d : ClassParts) → k < length classes → is_named t (get_or classes k d) ≡ false
unfolding class_of_type
none_named classes t none k d below = by (nat_lt (position_or_len (is_named t) classes) (length classes)) refl none
  where
    by : (b : Bool) → nat_lt (position_or_len (is_named t) classes) (length classes) ≡ b → (if b then Some (position_or_len (is_named t) classes) else None) ≡ None → is_named t (get_or classes k d) ≡ false
    by true within none = cc
    by false past none = let le : length classes ≤ position_or_len (is_named t) classes = grind (arith, nat_tests, past) in fails_before_first (is_named t) classes k d (omega (arith, below, le))

-- no type stands above one of which the files say nothing
module _ (app : AppParts) (t : ℕ) (none : class_of_type app.classes t ≡ None) where
  not_named : (class : ClassParts) → Contains app.classes class → class.name.0 ≡ t → ⊥
  not_named class c is = false≢true (sym (subst (λ (d : ClassParts). is_named t d ≡ false) c.2 (none_named app.classes t none c.0 class c.1)) ∙ eq-eqb class.name.0 t is)

  nothing_above : (c : ℕ) → IsAncestor app.classes t c → ⊥
  nothing_above c (its_parent class there is up) = not_named class there is
  nothing_above c (further class there is up rest) = not_named class there is

  only_itself : (c : ℕ) → is_sub app t c ≡ true → t ≡ c
  only_itself c is = ⊎_elim (λ same. same) (λ above. absurd (nothing_above c above)) (stands_above app t c is)

  -- and on an object of it no method is found
  none_found : (name proto : ℕ) → lookup_of app t name proto ≡ None
  unfolding lookup_of line_of
  none_found name proto = rw none (by (length app.classes))
    where
      by : (n : ℕ) → nearest (method_in app name proto) (line app.classes n None) ≡ None
      by zero = refl
      by (suc n) = refl

found_below : (app : AppParts) (t name proto n : ℕ) → lookup_of app t name proto ≡ Some n → n < length app.methods
unfolding lookup_of method_in
found_below app t name proto n is =
    nearest_below (method_in app name proto) (length app.methods) n
    (λ c k found. (position-Some _ app.methods k (record { class = record { 0 = 0 }; name = record { 0 = 0 }; proto = record { 0 = 0 }; flags = 0; registers = 0; ins = 0 }) found).0) (line_of app.classes t) is

-- ---- what a call finds is among what it can find
module _ (app : AppParts) (m : ℕ) (named : Named) (test : Option ℕ → Bool) where
  abbrev on_type : ℕ → Option ℕ
  on_type t = found_on app m Virtual named t

  -- the outside is, where the named class is no class of the application
  outside_first : is_none (class_of_type app.classes named.class.0) ≡ true → test None ≡ true → list_any test (found_by app m Virtual named) ≡ true
  outside_first gone good = rw (gone, good) refl

  of_class : (class : ClassParts) (c : ℕ) → slice_get app.classes c ≡ Some class → may_be_sub app (Some class.name.0) named.class.0 ≡ true → test (on_type class.name.0) ≡ true → list_any test (found_by app m Virtual named) ≡ true
  of_class class c at may good =
      let later = any_mapped test (λ (one : ClassParts). on_type one.name.0) (may_receive_of app named) app.classes c class at may good in
      list_any-append test (if is_none (class_of_type app.classes named.class.0) then None ∷ [] else []) _ ∙ or_right _ _ later

  virtually : (t : ℕ) → may_be_sub app (Some t) named.class.0 ≡ true → test (on_type t) ≡ true → (o : Option ℕ) → class_of_type app.classes t ≡ o → list_any test (found_by app m Virtual named) ≡ true
  unfolding may_be_sub
  virtually t may good (Some c) is = let class = class_there app.classes t c is in of_class class.0 c class.1 (rw class.2 may) (rw class.2 good)
  virtually t may good None is =
      outside_first
      (⊎_elim (λ sub. rw (sym (only_itself app t is named.class.0 sub), is) refl) (λ unknown. (and_parts (is_none (class_of_type app.classes named.class.0)) (has_unknown_above app t) unknown).0)
      (or_cases (is_sub app t named.class.0) _ may))
      (subst (λ (o : Option ℕ). test o ≡ true) (none_found app t is named.name.0 named.proto.0) good)

  found_there : (by : By) (type : Option ℕ) → may_receive app by named type ≡ true → test (found_for app m by named type) ≡ true → list_any test (found_by app m by named) ≡ true
  unfolding may_be_sub
  found_there Virtual None may good = outside_first may good
  found_there Virtual (Some t) may good = virtually t may good (class_of_type app.classes t) refl
  found_there Super type may good = rw good refl
  found_there Direct type may good = rw good refl
  found_there Static type may good = rw good refl

-- what a call finds is a method of the application
above_below : (app : AppParts) (o : Option TypeNo) (named : Named) (n : ℕ) → found_above app o named ≡ Some n → n < length app.methods
above_below app None named n is = cc
above_below app (Some t) named n is = found_below app t.0 named.name.0 named.proto.0 n is

for_below : (app : AppParts) (m : ℕ) (by : By) (named : Named) (type : Option ℕ) (n : ℕ) → found_for app m by named type ≡ Some n → n < length app.methods
for_below app m Virtual named None n is = cc
for_below app m Virtual named (Some t) n is = found_below app t named.name.0 named.proto.0 n is
for_below app m Super named type n is = above_below app (super_of app m) named n is
for_below app m Direct named type n is = found_below app named.class.0 named.name.0 named.proto.0 n is
for_below app m Static named type n is = found_below app named.class.0 named.name.0 named.proto.0 n is

-- ---- where the machine's call leads is among the targets
fits_found : (app : AppParts) (m : ℕ) (by : By) (named : Named) (type : Option ℕ) → may_receive app by named type ≡ true → (o : Option ℕ) → found_for app m by named type ≡ o
    → FitsTarget (row_of (length app.methods) (found_by app m by named)) (found_target o)
unfolding row_of
fits_found app m by named type may None is = found_there app m named is_none by type may (rw is refl)
fits_found app m by named type may (Some n) is =
    in_rising (finds (found_by app m by named)) 0 (length app.methods) n (omega arith) (omega (arith, for_below app m by named type n is))
    (found_there app m named (is_method n) by type may (rw is (eq-eqb n n refl)))

fits_named : (app : AppParts) (m op : ℕ) (named : Named) (type : Option ℕ) → FitsTarget (targets_of_call app m op named) (named_target app m (call_by op) (use_of app op named) named type)
unfolding targets_of_call found_of is_foreign row_of
fits_named app m op named type = by (is_on_array app named) (may_receive app (call_by op) named type) refl (is_plain (use_of app op named))
  where
    by : (array may : Bool) → may_receive app (call_by op) named type ≡ may → (own : Bool)
        → FitsTarget (row_of (length app.methods) (if array || not own then None ∷ [] else found_by app m (call_by op) named))
        (if array then GoesOutside else (if not may then IsStuck else (if own then found_target (found_for app m (call_by op) named type) else GoesOutside)))
    by true may is own = refl
    by false false is own = tt
    by false true is false = refl
    by false true is true = fits_found app m (call_by op) named type is (found_for app m (call_by op) named type) refl

-- ---- a call act is an invoke's
either_calls : (b : Bool) (x y : Act) → is_call x ≡ false → is_call y ≡ false → is_call (if b then x else y) ≡ false
either_calls true x y a b = a
either_calls false x y a b = b

reads_no_call : (to : ℕ) (slot : Option ℕ) (op : ℕ) (when : Throws) → is_call (read_act to slot op when) ≡ false
reads_no_call to None op when = refl
reads_no_call to (Some l) op when = refl

writes_no_call : (from : ℕ) (slot : Option ℕ) (when : Throws) → is_call (write_act from slot when) ≡ false
writes_no_call from None when = refl
writes_no_call from (Some l) when = refl

-- what a call act says of its instruction
pub record IsInvoke (app : AppParts) (m i : ℕ) (own : Option Ins) (by : By) (usage : LockUse) : Type 0 where
  pub op : ℕ
  pub is : invoke_of own ≡ Some op
  pub form : call_by op ≡ by
  pub used : lock_use_at app m i ≡ usage

call_own : (app : AppParts) (m i : ℕ) (own : Ins) (by : By) (usage : LockUse) (arguments : Args) (given : Gives) → act_of app m i own ≡ Call by usage arguments given → IsInvoke app m i (Some own) by usage
call_own app m i (ins.Invoke op method named) by usage arguments given is = record { op = op; is = refl; form = cc; used = cc }
call_own app m i (ins.MoveResult op to) by usage arguments given is = absurd (false≢true (sym (either_calls (op == MOVE_RESULT_WIDE) (Write to written.Pair Never) (TakeResult to) refl refl) ∙ ap is_call is))
call_own app m i (ins.Monitor op object) by usage arguments given is = absurd (false≢true (sym (either_calls (op == MONITOR_ENTER) (Check (WhereZero object)) Go refl refl) ∙ ap is_call is))
call_own app m i (ins.IfZero op value offset) by usage arguments given is =
    absurd (false≢true (sym (either_calls (op == IF_EQZ) (Test value 1) (if op == IF_NEZ then Test value 0 else Go) refl (either_calls (op == IF_NEZ) (Test value 0) Go refl refl)) ∙ ap is_call is))
call_own app m i (ins.FieldGet op to object field) by usage arguments given is = absurd (false≢true (sym (reads_no_call to (slot_at app m i) op (WhereZero object)) ∙ ap is_call is))
call_own app m i (ins.FieldPut op value object field) by usage arguments given is = absurd (false≢true (sym (writes_no_call value (slot_at app m i) (WhereZero object)) ∙ ap is_call is))
call_own app m i (ins.StaticGet op to field) by usage arguments given is = absurd (false≢true (sym (reads_no_call to (slot_at app m i) op Never) ∙ ap is_call is))
call_own app m i (ins.StaticPut op value field) by usage arguments given is = absurd (false≢true (sym (writes_no_call value (slot_at app m i) Never) ∙ ap is_call is))
call_own app m i _ by usage arguments given is = absurd (let e = ap is_call is in cc)

pub invoked : (app : AppParts) (m i : ℕ) (by : By) (usage : LockUse) (arguments : Args) (given : Gives) → act_at app m i ≡ Some (Call by usage arguments given) → IsInvoke app m i (ins_at app m i) by usage
unfolding act_at
invoked app m i by usage arguments given is = go (ins_at app m i) is
  where
    go : (o : Option Ins) → act_by app m i o ≡ Some (Call by usage arguments given) → IsInvoke app m i o by usage
    go None is = cc
    go (Some own) is = call_own app m i own by usage arguments given (cc)

-- an invoke names a method
method_there : (app : AppParts) (m i : ℕ) (place : Place) → IsSoundApp app → place_at app m i ≡ Some place → m < length app.methods
unfolding place_at places_of
method_there app m i place sound there =
    ⊎_elim (λ (here : m < length app.code). omega (arith, here, sound.sizes.code))
    (λ (past : length app.code ≤ m). absurd (let within = slice_get_within (slice_index_or app.code m no_body).places i place there in let none : i < 0 = rw (get_or_past app.code m no_body past) at within in omega (arith, none)))
    (cases_lt m (length app.code))

named_there : (app : AppParts) (m i : ℕ) (by : By) (usage : LockUse) (arguments : Args) (given : Gives) → IsSoundApp app → act_at app m i ≡ Some (Call by usage arguments given) → is_some (named_at app m i) ≡ true
unfolding place_at
named_there app m i by usage arguments given sound is = go (place_at app m i) refl
  where
    own : IsInvoke app m i (ins_at app m i) by usage
    own = invoked app m i by usage arguments given is

    go : (o : Option Place) → place_at app m i ≡ o → is_some (named_at app m i) ≡ true
    go None none = absurd (let e : invoke_of (ins_of None) ≡ Some own.op = rw none at own.is in cc)
    go (Some place) there =
        named_exact app m i sound (method_there app m i place sound there) (slice_get_within (places_of app m) i place there) ∙ ap is_some own.is

-- where the machine's call leads is among the targets of a graph that has what the call can call
module _ (x : SubjectParts) (m i : ℕ) (by : By) (usage : LockUse) (arguments : Args) (given : Gives) (row : targets_at x.graph m i ≡ targets_in x.app m i) (is : act_at x.app m i ≡ Some (Call by usage arguments given)) where
  pub target_fits : (type : Option ℕ) → FitsTarget (targets_at x.graph m i) (target_of x.app m by usage (named_at x.app m i) type)
  unfolding targets_in lock_use_at
  target_fits type = go (named_at x.app m i) refl
    where
      own : IsInvoke x.app m i (ins_at x.app m i) by usage
      own = invoked x.app m i by usage arguments given is

      go : (o : Option Named) → named_at x.app m i ≡ o → FitsTarget (targets_at x.graph m i) (target_of x.app m by usage o type)
      go None there = tt
      go (Some named) there =
          let targets : targets_at x.graph m i ≡ targets_of_call x.app m own.op named = row ∙ ap₂ (targets_by x.app m) own.is there in
          let used : use_of x.app own.op named ≡ usage = sym (ap₂ (use_by x.app) own.is there) ∙ own.used in
          subst (λ (r : TargetParts). FitsTarget r (named_target x.app m by usage named type)) (sym targets)
          (subst₂ (λ (b : By) (u : LockUse). FitsTarget (targets_of_call x.app m own.op named) (named_target x.app m b u named type)) own.form used (fits_named x.app m own.op named type))

  -- a type that the receiver may have
  receiver_type : (form : By) (named : Named) → (type : Option ℕ) × (may_receive x.app form named type ≡ true)
  unfolding may_be_sub is_sub
  receiver_type Virtual named = go (class_of_type x.app.classes named.class.0) refl
    where
      go : (o : Option ℕ) → class_of_type x.app.classes named.class.0 ≡ o → (type : Option ℕ) × (may_be_sub x.app type named.class.0 ≡ true)
      go None there = (None, rw there refl)
      go (Some c) there = (Some named.class.0, rw (eq-eqb named.class.0 named.class.0 refl) refl)
  receiver_type Super named = (None, refl)
  receiver_type Direct named = (None, refl)
  receiver_type Static named = (None, refl)

  elsewhere : (array plain : Bool) (o : Option ℕ) (row : TargetParts) → plain ≡ false → FitsTarget row (if array then GoesOutside else (if plain then found_target o else GoesOutside)) → row.outside ≡ true
  elsewhere true plain o row off fits = fits
  elsewhere false false o row off fits = fits
  elsewhere false true o row off fits = cc

  -- a lock call, and one that makes a lock, leads outside
  pub foreign_outside : IsSoundApp x.app → is_plain usage ≡ false → (targets_at x.graph m i).outside ≡ true
  foreign_outside sound foreign = go (named_at x.app m i) refl
    where
      go : (o : Option Named) → named_at x.app m i ≡ o → (targets_at x.graph m i).outside ≡ true
      go None there = absurd (false≢true (sym (ap is_some there) ∙ named_there x.app m i by usage arguments given sound is))
      go (Some named) there =
          let type = receiver_type by named in
          elsewhere (is_on_array x.app named) (is_plain usage) (found_for x.app m by named type.0) (targets_at x.graph m i) foreign
          (subst (λ (may : Bool). FitsTarget (targets_at x.graph m i) (if is_on_array x.app named then GoesOutside else (if not may then IsStuck else (if is_plain usage then found_target (found_for x.app m by named type.0) else GoesOutside)))) type.1
          (subst (λ (o : Option Named). FitsTarget (targets_at x.graph m i) (target_of x.app m by usage o type.0)) there (target_fits type.0)))
