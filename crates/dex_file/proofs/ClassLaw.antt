-- The class rows as they are read and as they stand in the file are the same.
use Rattle.std.proofs.Common.{◌≡◌, ℕ, suc, ◌+◌, ◌≤◌, List, [], ◌∷◌, ◌++◌, length, Result, Ok, refl, sym, ap, arith, ◌∙◌, append_assoc, append-nil, length-append}
use Rattle.std.specs.List.{sum_by}
use Rattle.ns_base.specs.Answers.{limit_of}
use Rattle.ns_base.specs.declared.answers.Counted.TheVariants.{Members, Units, Handlers}
use Rattle.dex_tables.specs.declared.tables.ClassDef.{ClassDef}
use Rattle.dex_code.specs.Content.{MemberLists, AreMembersOf}
use Rattle.dex_code.specs.Reading.{members_at}
use Rattle.dex_code.proofs.MembersLaw.{members_read, members_reads}
use Rattle.dex_file.specs.declared.fault.FileFault.{FileFault}
use Rattle.dex_file.specs.declared.sums.Sums.{Sums}
use Rattle.dex_file.specs.Content.{ClassContent, class_of, IsClassOf, AreClassesOf, no_classes, class, member_count, unit_count, handler_count, over_methods}
use Rattle.dex_file.specs.Exact.{◌>>=◌, reached, in_dex}
use Rattle.dex_file.specs.Reading.{added, with_members, ReadMethods, methods_at, ReadClasses, with_class}
use Rattle.dex_file.proofs.Chains.{bind_ok, bind_by, ok_same, in_dex_ok, added_ok, added_by, sum_by-more}
use Rattle.dex_file.proofs.MethodLaw.{AreMore, AreMethodsRead, more_more, methods_read, grown, methods_by}

-- the sums with so many members, units and handlers more, within the limits
pub record AreAllMore (before now : Sums) (m u h : ℕ) : Type 0 where
  pub members : now.members ≡ before.members + m
  pub units : now.units ≡ before.units + u
  pub handlers : now.handlers ≡ before.handlers + h
  pub member_limit : before.members ≤ limit_of Members → now.members ≤ limit_of Members
  pub unit_limit : before.units ≤ limit_of Units → now.units ≤ limit_of Units
  pub handler_limit : before.handlers ≤ limit_of Handlers → now.handlers ≤ limit_of Handlers

none_all_more : (sums : Sums) → AreAllMore sums sums 0 0 0
none_all_more sums = record {
  members = omega arith;
  units = omega arith;
  handlers = omega arith;
  member_limit = λ low. low;
  unit_limit = λ low. low;
  handler_limit = λ low. low;
}

more_all_more : (a b c : Sums) (m u h n v k : ℕ) → AreAllMore a b m u h → AreAllMore b c n v k → AreAllMore a c (m + n) (u + v) (h + k)
more_all_more a b c m u h n v k first second = record {
  members = let x = first.members in let y = second.members in omega arith;
  units = let x = first.units in let y = second.units in omega arith;
  handlers = let x = first.handlers in let y = second.handlers in omega arith;
  member_limit = λ low. second.member_limit (first.member_limit low);
  unit_limit = λ low. second.unit_limit (first.unit_limit low);
  handler_limit = λ low. second.handler_limit (first.handler_limit low);
}

same_all_more : (a b : Sums) (m u h n v k : ℕ) → m ≡ n → u ≡ v → h ≡ k → AreAllMore a b m u h → AreAllMore a b n v k
same_all_more a b m u h n v k d e f more = rw (← d, ← e, ← f) more

-- the members of a class, and then its methods
members_more : (a b c : Sums) (members : MemberLists) (u h : ℕ) → with_members a members ≡ Ok b → AreMore b c u h → AreAllMore a c (member_count members) u h
unfolding with_members
members_more a b c members u h first more =
    let count = bind_ok (added Members a.members (member_count members)) _ b first in
    let n = added_ok Members a.members (member_count members) count.0 count.1 in
    let is = ok_same _ _ count.2 in
    let all = ap (λ (s : Sums). s.members) is in
    let units = ap (λ (s : Sums). s.units) is in
    let handlers = ap (λ (s : Sums). s.handlers) is in
    record {
      members = more.members ∙ sym all ∙ n.0;
      units = more.units ∙ ap (λ (k : ℕ). k + u) (sym units);
      handlers = more.handlers ∙ ap (λ (k : ℕ). k + h) (sym handlers);
      member_limit = λ low. rw (more.members, ← all, n.0) n.1;
      unit_limit = λ low. more.unit_limit (rw (← units) low);
      handler_limit = λ low. more.handler_limit (rw (← handlers) low);
    }

-- a class row that was read
pub record IsClassRead (bs lists : List ℕ) (x : ReadClasses) (row : ClassDef) (y : ReadClasses) : Type 0 where
  pub lists_of : MemberLists
  pub own : ClassContent
  pub is : IsClassOf bs lists (length x.classes) row lists_of own
  pub classes : y.classes ≡ x.classes ++ own ∷ []
  pub sums : AreAllMore x.sums y.sums (member_count lists_of) (over_methods (unit_count bs) lists_of) (over_methods (handler_count bs) lists_of)

-- what follows each part of a class row
after_virtuals : List ℕ → ReadClasses → ClassDef → MemberLists → ReadMethods → ReadMethods → Result ReadClasses FileFault
after_virtuals lists x row members directs virtuals = Ok (record {
  sums = virtuals.sums;
  classes = x.classes ++ class_of lists row members directs.methods virtuals.methods ∷ [];
})

after_directs : (bs lists : List ℕ) → ReadClasses → ClassDef → MemberLists → ReadMethods → Result ReadClasses FileFault
after_directs bs lists x row members directs = methods_at bs directs.sums members.virtuals >>= after_virtuals lists x row members directs

after_sums : (bs lists : List ℕ) → ReadClasses → ClassDef → MemberLists → Sums → Result ReadClasses FileFault
after_sums bs lists x row members sums = methods_at bs sums members.directs >>= after_directs bs lists x row members

after_members : (bs lists : List ℕ) → ReadClasses → ClassDef → MemberLists → Result ReadClasses FileFault
after_members bs lists x row members = with_members x.sums members >>= after_sums bs lists x row members

class_made : (bs lists : List ℕ) (x : ReadClasses) (row : ClassDef) (y : ReadClasses) (members : MemberLists) (sums : Sums) (directs virtuals : ReadMethods)
    → AreMembersOf bs (length x.classes) members
    → with_members x.sums members ≡ Ok sums
    → AreMethodsRead bs (record { sums = sums; methods = [] }) members.directs directs
    → AreMethodsRead bs (record { sums = directs.sums; methods = [] }) members.virtuals virtuals
    → ◌≡◌ {A = ReadClasses} (record { sums = virtuals.sums; classes = x.classes ++ class_of lists row members directs.methods virtuals.methods ∷ [] }) y
    → IsClassRead bs lists x row y
class_made bs lists x row y members sums directs virtuals stand counted d v is =
    rw (← is) (record {
      lists_of = members;
      own = class_of lists row members directs.methods virtuals.methods;
      is = record { stand = stand; fields = refl; directs = rw d.methods d.are; virtuals = rw v.methods v.are };
      classes = refl;
      sums = members_more x.sums sums virtuals.sums members _ _ counted (more_more _ _ _ _ _ _ _ d.sums v.sums);
    })

class_read : (bs lists : List ℕ) (x : ReadClasses) (row : ClassDef) (y : ReadClasses) → with_class bs lists x row ≡ Ok y → IsClassRead bs lists x row y
unfolding with_class after_members after_sums after_directs after_virtuals
class_read bs lists x row y h =
    let members = bind_ok (in_dex (members_at bs (length x.classes))) (after_members bs lists x row) y h in
    let sums = bind_ok (with_members x.sums members.0) (after_sums bs lists x row members.0) y members.2 in
    let directs = bind_ok (methods_at bs sums.0 members.0.directs) (after_directs bs lists x row members.0) y sums.2 in
    let virtuals = bind_ok (methods_at bs directs.0.sums members.0.virtuals) (after_virtuals lists x row members.0 directs.0) y directs.2 in
    class_made bs lists x row y members.0 sums.0 directs.0 virtuals.0
    (members_read bs (length x.classes) members.0 (in_dex_ok (members_at bs (length x.classes)) members.0 members.1))
    sums.1
    (methods_read bs members.0.directs (record { sums = sums.0; methods = [] }) directs.0 directs.1)
    (methods_read bs members.0.virtuals (record { sums = directs.0.sums; methods = [] }) virtuals.0 virtuals.1)
    (ok_same (record {
      sums = virtuals.0.sums;
      classes = x.classes ++ class_of lists row members.0 directs.0.methods virtuals.0.methods ∷ [];
    }) y virtuals.2)

-- class rows that were read
pub record AreClassesRead (bs lists : List ℕ) (x : ReadClasses) (rows : List ClassDef) (y : ReadClasses) : Type 0 where
  pub members : List MemberLists
  pub own : List ClassContent
  pub are : AreClassesOf bs lists (length x.classes) rows members own
  pub classes : y.classes ≡ x.classes ++ own
  pub sums : AreAllMore x.sums y.sums (sum_by member_count members) (sum_by (over_methods (unit_count bs)) members) (sum_by (over_methods (handler_count bs)) members)

no_class_read : (bs lists : List ℕ) (x y : ReadClasses) → x ≡ y → AreClassesRead bs lists x [] y
no_class_read bs lists x y is = rw (← is) (record {
  members = [];
  own = [];
  are = no_classes;
  classes = sym (append-nil x.classes);
  sums = none_all_more x.sums;
})

next_number : (xs : List ClassContent) (x : ClassContent) (ys : List ClassContent) → ys ≡ xs ++ x ∷ [] → length ys ≡ suc (length xs)
next_number xs x ys is = let n = length-append xs (x ∷ []) in rw is (omega arith)

moved : (bs lists : List ℕ) (c d : ℕ) (rows : List ClassDef) (members : List MemberLists) (own : List ClassContent) → c ≡ d → AreClassesOf bs lists c rows members own → AreClassesOf bs lists d rows members own
moved bs lists c d rows members own e are = rw (← e) are

one_class_read : (bs lists : List ℕ) (x y z : ReadClasses) (row : ClassDef) (rows : List ClassDef) → IsClassRead bs lists x row y → AreClassesRead bs lists y rows z → AreClassesRead bs lists x (row ∷ rows) z
one_class_read bs lists x y z row rows one rest = record {
  members = one.lists_of ∷ rest.members;
  own = one.own ∷ rest.own;
  are = class one.is (moved bs lists _ _ rows rest.members rest.own (next_number x.classes one.own y.classes one.classes) rest.are);
  classes = rest.classes ∙ ap (λ (cs : List ClassContent). cs ++ rest.own) one.classes ∙ append_assoc x.classes (one.own ∷ []) rest.own;
  sums = same_all_more _ _ _ _ _ _ _ _
      (sym (sum_by-more member_count one.lists_of rest.members))
      (sym (sum_by-more (over_methods (unit_count bs)) one.lists_of rest.members))
      (sym (sum_by-more (over_methods (handler_count bs)) one.lists_of rest.members))
      (more_all_more _ _ _ _ _ _ _ _ _ one.sums rest.sums);
}

pub classes_read : (bs lists : List ℕ) (rows : List ClassDef) (x y : ReadClasses) → reached (with_class bs lists) x rows ≡ Ok y → AreClassesRead bs lists x rows y
classes_read bs lists [] x y h = no_class_read bs lists x y (ok_same _ _ h)
classes_read bs lists (row ∷ rows) x y h =
    let one = bind_ok (with_class bs lists x row) (λ z. reached (with_class bs lists) z rows) y h in
    one_class_read bs lists x one.0 y row rows (class_read bs lists x row one.0 one.1) (classes_read bs lists rows one.0 y one.2)

-- the sums with so many more
unfoldable pub all_grown : Sums → (m u h : ℕ) → Sums
all_grown sums m u h = record { members = sums.members + m; units = sums.units + u; handlers = sums.handlers + h }

all_grown_none : (sums : Sums) → all_grown sums 0 0 0 ≡ sums
unfolding all_grown
all_grown_none sums =
    let m : sums.members + 0 ≡ sums.members = omega arith in
    let u : sums.units + 0 ≡ sums.units = omega arith in
    let h : sums.handlers + 0 ≡ sums.handlers = omega arith in
    rw (m, u, h) refl

all_grown_twice : (sums : Sums) (m u h n v k : ℕ) → all_grown (all_grown sums m u h) n v k ≡ all_grown sums (m + n) (u + v) (h + k)
unfolding all_grown
all_grown_twice sums m u h n v k =
    let a : sums.members + m + n ≡ sums.members + (m + n) = omega arith in
    let b : sums.units + u + v ≡ sums.units + (u + v) = omega arith in
    let c : sums.handlers + h + k ≡ sums.handlers + (h + k) = omega arith in
    rw (a, b, c) refl

-- and back: members that stand there are counted
members_by : (sums : Sums) (members : MemberLists) → sums.members + member_count members ≤ limit_of Members → with_members sums members ≡ Ok (all_grown sums (member_count members) 0 0)
unfolding with_members all_grown
members_by sums members low =
    let u : sums.units + 0 ≡ sums.units = omega arith in
    let h : sums.handlers + 0 ≡ sums.handlers = omega arith in
    rw (added_by Members sums.members (member_count members) low, u, h) refl

-- the sums after the methods of two lists
grown_to : (sums : Sums) (m u h v k : ℕ) → grown (grown (all_grown sums m 0 0) u h) v k ≡ all_grown sums m (u + v) (h + k)
unfolding grown all_grown
grown_to sums m u h v k =
    let a : sums.units + 0 + u + v ≡ sums.units + (u + v) = omega arith in
    let b : sums.handlers + 0 + h + k ≡ sums.handlers + (h + k) = omega arith in
    rw (a, b) refl

same_classes : (a b : Sums) (xs ys : List ClassContent) → a ≡ b → xs ≡ ys → ◌≡◌ {A = ReadClasses} (record { sums = a; classes = xs }) (record { sums = b; classes = ys })
same_classes a b xs ys e f = rw (e, f) refl

class_by : (bs lists : List ℕ) (x : ReadClasses) (row : ClassDef) (members : MemberLists) (own : ClassContent) → IsClassOf bs lists (length x.classes) row members own
    → x.sums.members + member_count members ≤ limit_of Members
    → x.sums.units + over_methods (unit_count bs) members ≤ limit_of Units
    → x.sums.handlers + over_methods (handler_count bs) members ≤ limit_of Handlers
    → with_class bs lists x row ≡ Ok (record { sums = all_grown x.sums (member_count members) (over_methods (unit_count bs) members) (over_methods (handler_count bs) members); classes = x.classes ++ own ∷ [] })
unfolding with_class all_grown grown
class_by bs lists x row members own is low units handlers =
    let a : Sums = all_grown x.sums (member_count members) 0 0 in
    let du = sum_by (unit_count bs) members.directs in
    let dh = sum_by (handler_count bs) members.directs in
    let first = methods_by bs members.directs own.directs (record { sums = a; methods = [] }) is.directs (omega arith) (omega arith) in
    let second = methods_by bs members.virtuals own.virtuals (record { sums = grown a du dh; methods = [] }) is.virtuals (omega arith) (omega arith) in
    rw (members_reads bs (length x.classes) members is.stand, members_by x.sums members low, first, second)
    (ap Ok (same_classes _ _ _ _ (grown_to x.sums (member_count members) du dh (sum_by (unit_count bs) members.virtuals) (sum_by (handler_count bs) members.virtuals))
    (ap (λ (c : ClassContent). x.classes ++ c ∷ []) (sym is.fields))))

pub classes_by : (bs lists : List ℕ) (rows : List ClassDef) (members : List MemberLists) (own : List ClassContent) (x : ReadClasses) → AreClassesOf bs lists (length x.classes) rows members own
    → x.sums.members + sum_by member_count members ≤ limit_of Members
    → x.sums.units + sum_by (over_methods (unit_count bs)) members ≤ limit_of Units
    → x.sums.handlers + sum_by (over_methods (handler_count bs)) members ≤ limit_of Handlers
    → reached (with_class bs lists) x rows ≡ Ok (record { sums = all_grown x.sums (sum_by member_count members) (sum_by (over_methods (unit_count bs)) members) (sum_by (over_methods (handler_count bs)) members); classes = x.classes ++ own })
unfolding all_grown
classes_by bs lists [] [] [] x no_classes low units handlers = ap Ok (same_classes x.sums _ x.classes _ (sym (all_grown_none x.sums)) (sym (append-nil x.classes)))
classes_by bs lists [] [] (own ∷ more) x are low units handlers = elim are [ ]
classes_by bs lists [] (m ∷ members) own x are low units handlers = elim are [ ]
classes_by bs lists (row ∷ rows) [] own x are low units handlers = elim are [ ]
classes_by bs lists (row ∷ rows) (m ∷ members) [] x are low units handlers = elim are [ ]
classes_by bs lists (row ∷ rows) (m ∷ members) (own ∷ more) x (class is are) low units handlers =
    let ms = sum_by-more member_count m members in
    let us = sum_by-more (over_methods (unit_count bs)) m members in
    let hs = sum_by-more (over_methods (handler_count bs)) m members in
    let y : ReadClasses = record { sums = all_grown x.sums (member_count m) (over_methods (unit_count bs) m) (over_methods (handler_count bs) m); classes = x.classes ++ own ∷ [] } in
    bind_by (with_class bs lists x row) (λ z. reached (with_class bs lists) z rows) y _
    (class_by bs lists x row m own is (omega arith) (omega arith) (omega arith))
    (classes_by bs lists rows members more y (moved bs lists _ _ rows members more (sym (next_number x.classes own y.classes refl)) are) (omega arith) (omega arith) (omega arith)
    ∙ ap Ok (same_classes _ _ _ _
    (all_grown_twice x.sums (member_count m) (over_methods (unit_count bs) m) (over_methods (handler_count bs) m) (sum_by member_count members) (sum_by (over_methods (unit_count bs)) members) (sum_by (over_methods (handler_count bs)) members) ∙ rw (ms, us, hs) refl)
    (append_assoc x.classes (own ∷ []) more)))
