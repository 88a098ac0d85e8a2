-- A file that is not too long has no table that is too long.
use Rattle.std.proofs.Common.{◌≡◌, ℕ, suc, ◌≤◌, List, [], ◌∷◌, length, refl, ap, arith, ◌∙◌}
use Rattle.std.proofs.lemmas.List.{length-map}
use Rattle.std.specs.List.{sum_by}
use Rattle.std.proofs.lemmas.List.Sums.{sum_by-cons}
use Rattle.ns_base.specs.Answers.{limit_of}
use Rattle.ns_base.specs.declared.answers.Counted.TheVariants.{FileBytes}
use Rattle.dex_tables.specs.declared.tables.ClassDef.{ClassDef}
use Rattle.dex_tables.specs.Rows.{string_count, string_text}
use Rattle.dex_tables.proofs.Whole.{length-list_below}
use Rattle.dex_code.specs.declared.members.Member.{Member}
use Rattle.dex_code.specs.Content.{MemberLists}
use Rattle.dex_file.specs.declared.parts.FileMethod.{FileMethod}
use Rattle.dex_file.specs.Content.{ClassContent, FileContent, field_of, proto_of, AreMethodsOf, no_methods, method, IsClassOf, AreClassesOf, no_classes, class, member_count, IsContentOf}
use Rattle.dex_file.specs.Sizes.{members_of, HasFewMembers, IsShort}

method_count : (bs : List ℕ) (members : List Member) (methods : List FileMethod) → AreMethodsOf bs members methods → length methods ≡ length members
method_count bs [] [] no_methods = refl
method_count bs [] (own ∷ methods) are = elim are [ ]
method_count bs (m ∷ members) [] are = elim are [ ]
method_count bs (m ∷ members) (own ∷ methods) (method is more) = ap suc (method_count bs members methods more)

same_count : (bs lists : List ℕ) (c : ℕ) (row : ClassDef) (members : MemberLists) (content : ClassContent) → IsClassOf bs lists c row members content → members_of content ≡ member_count members
same_count bs lists c row members content is =
    let directs = method_count bs members.directs content.directs is.directs in
    let virtuals = method_count bs members.virtuals content.virtuals is.virtuals in
    let statics = ap (λ (k : ClassContent). length k.statics) is.fields ∙ length-map members.statics field_of in
    let instances = ap (λ (k : ClassContent). length k.instances) is.fields ∙ length-map members.instances field_of in
    omega arith

class_count : (bs lists : List ℕ) (c : ℕ) (rows : List ClassDef) (members : List MemberLists) (contents : List ClassContent) → AreClassesOf bs lists c rows members contents → length contents ≡ length rows
class_count bs lists c [] [] [] no_classes = refl
class_count bs lists c [] [] (content ∷ contents) are = elim are [ ]
class_count bs lists c [] (own ∷ members) contents are = elim are [ ]
class_count bs lists c (row ∷ rows) [] contents are = elim are [ ]
class_count bs lists c (row ∷ rows) (own ∷ members) [] are = elim are [ ]
class_count bs lists c (row ∷ rows) (own ∷ members) (content ∷ contents) (class is more) = ap suc (class_count bs lists (suc c) rows members contents more)

-- as many members as were counted
all_counted : (bs lists : List ℕ) (c : ℕ) (rows : List ClassDef) (members : List MemberLists) (contents : List ClassContent) → AreClassesOf bs lists c rows members contents → sum_by members_of contents ≡ sum_by member_count members
all_counted bs lists c [] [] [] no_classes = refl
all_counted bs lists c [] [] (content ∷ contents) are = elim are [ ]
all_counted bs lists c [] (own ∷ members) contents are = elim are [ ]
all_counted bs lists c (row ∷ rows) [] contents are = elim are [ ]
all_counted bs lists c (row ∷ rows) (own ∷ members) [] are = elim are [ ]
all_counted bs lists c (row ∷ rows) (own ∷ members) (content ∷ contents) (class is more) =
    omega (arith, sum_by-cons members_of content contents, sum_by-cons member_count own members, same_count bs lists c row own content is, all_counted bs lists (suc c) rows members contents more)

pub content_short : (bs : List ℕ) (content : FileContent) → IsContentOf bs content → length bs ≤ limit_of FileBytes → IsShort content
content_short bs content is short =
    let tables = is.tables in
    let whole = is.stand.sound.in_file in
    record {
      strings = let len = ap (λ (f : FileContent). length f.strings) is.rest ∙ length-list_below (string_text bs) (string_count bs) in let rows = whole.strings in omega arith;
      types = let len = ap (λ (f : FileContent). length f.types) is.rest ∙ is.stand.types.count in let rows = whole.types in omega arith;
      protos = let len = ap (λ (f : FileContent). length f.protos) is.rest ∙ length-map tables.protos (proto_of tables.lists) ∙ is.stand.protos.count in let rows = whole.protos in omega arith;
      fields = let len = ap (λ (f : FileContent). length f.fields) is.rest ∙ is.stand.fields.count in let rows = whole.fields in omega arith;
      methods = let len = ap (λ (f : FileContent). length f.methods) is.rest ∙ is.stand.methods.count in let rows = whole.methods in omega arith;
      classes = let len = class_count bs tables.lists 0 tables.classes is.members content.classes is.classes ∙ is.stand.classes.count in let rows = whole.classes in omega arith;
    }

-- and its members were counted
pub few_members : (bs : List ℕ) (content : FileContent) → IsContentOf bs content → HasFewMembers content
few_members bs content is =
    let same = all_counted bs is.tables.lists 0 is.tables.classes is.members content.classes is.classes in let low = is.member_limit in omega arith
