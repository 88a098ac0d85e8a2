-- The class hierarchy, by the superclasses and interfaces that the files name: which type is a subtype of another, and
-- what is found in a class or in the nearest one above it. Types and classes are told by number.
use Rattle.std.specs.Prelude.{ℕ, zero, suc, ◌≡◌, ◌⊎◌, ◌↔◌, ◌==◌, ◌&&◌, ◌||◌, not, Bool, true, false, List, [], ◌∷◌, map, length, Option, Some, None, slice_get, slice_index_or, position, is_none, bit_and, bytes_eq, codes}
use Rattle.std.specs.List.{list_any, range_with_len}
use Rattle.ns_base.specs.declared.rows.TypeNo.{TypeNo}
use Rattle.ns_base.specs.declared.rows.FieldNo.{FieldNo}
use Rattle.dalvik.specs.declared.access.TheConstants.{ABSTRACT}
use Rattle.app_model.specs.declared.rows.FieldRow.{FieldRow}
use Rattle.app_model.specs.declared.rows.MethodRow.{MethodRow}
use Rattle.app_model.specs.Ancestors.{IsAncestor}
use Rattle.app_model.specs.Names.{type_text}
use Rattle.app_model.specs.Parts.{AppParts, ClassParts}

-- ---- classes and their superclasses
-- the class of a type, where the application has one
unfoldable pub class_of_type : List ClassParts → ℕ → Option ℕ
class_of_type classes t = position (λ (class : ClassParts). class.name.0 == t) classes

abbrev pub class_of_parent : List ClassParts → Option TypeNo → Option ℕ
class_of_parent classes None = None
class_of_parent classes (Some t) = class_of_type classes t.0

abbrev pub parent_of : Option ClassParts → Option TypeNo
parent_of None = None
parent_of (Some class) = class.parent

-- the superclass of class c, where it is a class of the application
unfoldable pub superclass_at : List ClassParts → ℕ → Option ℕ
superclass_at classes c = class_of_parent classes (parent_of (slice_get classes c))

-- a class and at most n superclasses of the application above it, nearest first
abbrev pub line : List ClassParts → ℕ → Option ℕ → List ℕ
line classes zero c = []
line classes (suc n) None = []
line classes (suc n) (Some c) = c ∷ line classes n (superclass_at classes c)

-- the class of a type and its superclasses in the application: no more than there are classes
unfoldable pub line_of : List ClassParts → ℕ → List ℕ
line_of classes t = line classes (length classes) (class_of_type classes t)

-- ---- what is found in the nearest class
abbrev pub or_else : Option ℕ → Option ℕ → Option ℕ
or_else (Some found) other = Some found
or_else None other = other

abbrev pub nearest : (ℕ → Option ℕ) → List ℕ → Option ℕ
nearest found [] = None
nearest found (c ∷ above) = or_else (found c) (nearest found above)

abbrev pub is_abstract : ℕ → Bool
is_abstract flags = not (bit_and flags ABSTRACT == 0)

-- the first method of class c with this name and prototype that is not abstract
unfoldable pub method_in : AppParts → (name proto c : ℕ) → Option ℕ
method_in app name proto c =
    position (λ (method : MethodRow). method.class.0 == c && (method.name.0 == name && (method.proto.0 == proto && not (is_abstract method.flags)))) app.methods

-- the method that a call finds on an object of type t: none where it leads outside the application
unfoldable pub lookup_of : AppParts → (t name proto : ℕ) → Option ℕ
lookup_of app t name proto = nearest (method_in app name proto) (line_of app.classes t)

-- the first field of class c with this name and type
unfoldable pub field_in : AppParts → (name kind c : ℕ) → Option ℕ
field_in app name kind c =
    position (λ (field : FieldRow). field.class.0 == c && (field.name.0 == name && field.kind.0 == kind)) app.fields

-- the field that an access on type t finds
unfoldable pub resolve_field_of : AppParts → (t name kind : ℕ) → Option ℕ
resolve_field_of app t name kind = nearest (field_in app name kind) (line_of app.classes t)

abbrev pub is_named_field : Option FieldRow → (name c : ℕ) → Bool
is_named_field None name c = false
is_named_field (Some field) name c = field.class.0 == c && field.name.0 == name

-- the first lock field of class c under this name
unfoldable pub lock_in : AppParts → (name c : ℕ) → Option ℕ
lock_in app name c = position (λ (f : FieldNo). is_named_field (slice_get app.fields f.0) name c) app.locks

-- the lock field that an access of this name on type t finds
unfoldable pub lock_of : AppParts → (t name : ℕ) → Option ℕ
lock_of app t name = nearest (lock_in app name) (line_of app.classes t)

-- ---- subtypes, as marks on types: the types above the marked ones are marked, round by round
abbrev pub is_type : ℕ → TypeNo → Bool
is_type u t = t.0 == u

abbrev pub is_superclass : Option TypeNo → ℕ → Bool
is_superclass None u = false
is_superclass (Some t) u = t.0 == u

-- type u is the superclass or an interface of the class
abbrev pub has_parent : ClassParts → ℕ → Bool
has_parent class u = is_superclass class.parent u || list_any (is_type u) class.interfaces

abbrev pub is_marked : List Bool → ℕ → Bool
is_marked marks t = slice_index_or marks t false

-- type u is marked, or stands right above a marked one
abbrev pub round : List ClassParts → List Bool → ℕ → Bool
round classes marks u = is_marked marks u || list_any (λ (class : ClassParts). is_marked marks class.name.0 && has_parent class u) classes

abbrev pub marks_of : ℕ → (ℕ → Bool) → List Bool
marks_of n test = map test (range_with_len 0 n)

-- n types, after that many rounds
abbrev pub rounds : List ClassParts → (n count : ℕ) → List Bool → List Bool
rounds classes n zero marks = marks
rounds classes n (suc count) marks = rounds classes n count (marks_of n (round classes marks))

-- a type and all types above it
unfoldable pub above_type : AppParts → ℕ → List Bool
above_type app a = rounds app.classes (length app.types) (length app.types) (marks_of (length app.types) (λ u. u == a))

-- type a is type b, or b stands above it
unfoldable pub is_sub : AppParts → (a b : ℕ) → Bool
is_sub app a b = (a == b) || is_marked (above_type app a) b

-- the test tells the types that stand above a type, and itself
abbrev pub TellsSubtypes : AppParts → Type 0
TellsSubtypes app = (a b : ℕ) → (is_sub app a b ≡ true) ↔ ((a ≡ b) ⊎ IsAncestor app.classes a b)

-- ---- what an object may be of which the files do not say all
abbrev pub object_name : List ℕ
object_name = codes "Ljava/lang/Object;"

-- a type of which the files say nothing, and which may have any superclass that they say nothing of either
abbrev pub is_unknown : AppParts → ℕ → Bool
is_unknown app t = is_none (class_of_type app.classes t) && not (bytes_eq (type_text app t) object_name)

-- some type of which the files say nothing stands above type t, or is it
unfoldable pub has_unknown_above : AppParts → ℕ → Bool
has_unknown_above app t = list_any (λ u. is_sub app t u && is_unknown app u) (range_with_len 0 (length app.types))

-- an object of type t may be one of type c; without a number, t is a type that the application does not name
unfoldable pub may_be_sub : AppParts → Option ℕ → ℕ → Bool
may_be_sub app None c = is_none (class_of_type app.classes c)
may_be_sub app (Some t) c = is_sub app t c || (is_none (class_of_type app.classes c) && has_unknown_above app t)
