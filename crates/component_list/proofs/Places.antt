-- The first element of a list that passes a test, looked for from a place on.
use Rattle.std.proofs.Common.{◌≡◌, ◌≤◌, ◌+◌, ℕ, Bool, true, false, cond, List, drop, length, Option, Some, None, position, slice_get, bytes_eq, refl, sym, ap, ◌∙◌}
use Rattle.std.specs.List.{position_from}
use Rattle.std.proofs.Math.ListN.{drop_of_length-le}
use Rattle.std.proofs.lemmas.Iterator.Adapters.{position_from-zero}
use Rattle.std.proofs.lemmas.List.{drop_more}
use Rattle.std.proofs.lemmas.Option.{get_or_from_slice_get, slice_get_within}
use Rattle.app_model.specs.Components.{Prototype, name_number, proto_number}
use Rattle.app_model.specs.Names.{has_types, is_proto, type_text}
use Rattle.app_model.specs.Parts.{AppParts, ClassParts, ProtoParts}
use Rattle.component_list.specs.Binding.{as_name, as_proto, class_named, is_named}

pub from_here : {X : Type 0} (p : X → Bool) (xs : List X) (i : ℕ) (x : X) → slice_get xs i ≡ Some x
    → position_from p i (drop i xs) ≡ cond (p x) (Some i) (position_from p (i + 1) (drop (i + 1) xs))
from_here p xs i x here =
    let more = drop_more xs i x (slice_get_within xs i x here) in
    let same = get_or_from_slice_get xs i x x here in
    rw (more, same) refl

pub from_start : {X : Type 0} (p : X → Bool) (xs : List X) → position p xs ≡ position_from p 0 xs
from_start p xs = position_from-zero p xs

-- none before place i passes
abbrev pub IsFrom : {X : Type 0} → (X → Bool) → List X → ℕ → Type 0
IsFrom p xs i = position_from p i (drop i xs) ≡ position_from p 0 xs

pub found_here : {X : Type 0} (p : X → Bool) (xs : List X) (i : ℕ) (x : X) → IsFrom p xs i → slice_get xs i ≡ Some x → p x ≡ true → Some i ≡ position p xs
found_here p xs i x from here passes = sym (from_start p xs ∙ sym from ∙ from_here p xs i x here ∙ rw passes refl)

pub found_next : {X : Type 0} (p : X → Bool) (xs : List X) (i : ℕ) (x : X) → IsFrom p xs i → slice_get xs i ≡ Some x → p x ≡ false → IsFrom p xs (i + 1)
found_next p xs i x from here fails = sym (from_here p xs i x here ∙ rw fails refl) ∙ from

pub found_none : {X : Type 0} (p : X → Bool) (xs : List X) (i : ℕ) → IsFrom p xs i → length xs ≤ i → None ≡ position p xs
found_none p xs i from past = sym (from_start p xs ∙ sym from ∙ rw (drop_of_length-le xs past) refl)

-- ---- names and prototypes
pub name_here : (app : AppParts) (name : List ℕ) (i : ℕ) (x : List ℕ) → IsFrom (bytes_eq name) app.names i → slice_get app.names i ≡ Some x → bytes_eq name x ≡ true → Some (record { 0 = i }) ≡ as_name (name_number app name)
unfolding name_number
name_here app name i x from here passes = ap as_name (found_here (bytes_eq name) app.names i x from here passes)

pub name_none : (app : AppParts) (name : List ℕ) (i : ℕ) → IsFrom (bytes_eq name) app.names i → length app.names ≤ i → None ≡ as_name (name_number app name)
unfolding name_number
name_none app name i from past = ap as_name (found_none (bytes_eq name) app.names i from past)

abbrev pub has_prototype : AppParts → Prototype → ProtoParts → Bool
has_prototype app p proto = has_types app (Some proto) p.result p.params

pub proto_here : (app : AppParts) (p : Prototype) (i : ℕ) (x : ProtoParts) → IsFrom (has_prototype app p) app.protos i → slice_get app.protos i ≡ Some x → has_prototype app p x ≡ true → Some (record { 0 = i }) ≡ as_proto (proto_number app p)
unfolding proto_number
proto_here app p i x from here passes = ap as_proto (found_here (has_prototype app p) app.protos i x from here passes)

pub proto_none : (app : AppParts) (p : Prototype) (i : ℕ) → IsFrom (has_prototype app p) app.protos i → length app.protos ≤ i → None ≡ as_proto (proto_number app p)
unfolding proto_number
proto_none app p i from past = ap as_proto (found_none (has_prototype app p) app.protos i from past)

pub proto_told : (app : AppParts) (p : Prototype) (i : ℕ) (x : ProtoParts) (b : Bool) → slice_get app.protos i ≡ Some x → b ≡ is_proto app i p.result p.params → has_prototype app p x ≡ b
unfolding is_proto
proto_told app p i x b here told = sym (told ∙ ap (λ (o : Option ProtoParts). has_types app o p.result p.params) here)

-- ---- classes
pub class_from : (app : AppParts) (name : List ℕ) → position_from (is_named app name) 0 app.classes ≡ class_named app name
unfolding class_named
class_from app name = sym (from_start (is_named app name) app.classes)

-- the class at place i comes before those after it
pub class_first : (app : AppParts) (name key : List ℕ) (i left : ℕ) (class : ClassParts) (known : Option ℕ) → slice_get app.classes i ≡ Some class → key ≡ type_text app class.name.0 → i + 1 ≡ left
    → known ≡ position_from (is_named app name) left (drop left app.classes)
    → cond (bytes_eq key name) (Some i) known ≡ position_from (is_named app name) i (drop i app.classes)
class_first app name key i left class known here named next before = rw (named, before, ← next) (sym (from_here (is_named app name) app.classes i class here))
