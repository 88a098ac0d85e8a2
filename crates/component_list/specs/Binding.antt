-- A component list in an application: its table, or the first fault.
use Rattle.std.specs.Prelude.{ℕ, ◌≡◌, ◌&&◌, Bool, true, false, if◌then◌else◌, List, length, map, Option, Some, None, option_and_then, option_map, position, slice_get, bytes_eq, Result, Ok, Err}
use Rattle.std.specs.Borrow.{Bor}
use Rattle.std.specs.List.{range_with_len}
use Rattle.std.specs.Map.{lookup}
use Rattle.ns_base.specs.Steps.{◌>>=◌, rows_below}
use Rattle.ns_base.specs.declared.rows.MethodNo.{MethodNo}
use Rattle.ns_base.specs.declared.rows.NameNo.{NameNo}
use Rattle.ns_base.specs.declared.rows.ProtoNo.{ProtoNo}
use Rattle.app_model.specs.Components.{ComponentParts, callbacks_of, callback_method, name_number, prototypes_of, proto_number}
use Rattle.app_model.specs.Names.{type_text}
use Rattle.app_model.specs.Parts.{AppParts, ClassParts}
use Rattle.app_model.specs.declared.component.Kind.{Kind}
use Rattle.app_model.specs.declared.component.Kind.TheVariants.{Activity, Service, Receiver, Runnable}
use Rattle.component_list.specs.Listed.{ListedParts}
use Rattle.component_list.specs.declared.numbers.Callback.{Callback}
use Rattle.component_list.specs.declared.numbers.Callbacks.{Callbacks}
use Rattle.component_list.specs.declared.fault.ListFault.{ListFault}
use Rattle.component_list.specs.declared.fault.ListFault.TheVariants as fault

abbrev pub is_named : AppParts → List ℕ → ClassParts → Bool
is_named app name class = bytes_eq (type_text app class.name.0) name

-- the class of this descriptor, where the application has one
unfoldable pub class_named : AppParts → List ℕ → Option ℕ
class_named app name = position (is_named app name) app.classes

abbrev pub class_or_fault : (i : ℕ) → Option ℕ → Result ℕ ListFault
class_or_fault i None = Err (fault.NoClass i)
class_or_fault i (Some c) = Ok c

abbrev pub as_method : Option ℕ → Option MethodNo
as_method m = option_map (λ number. record { 0 = number }) m

-- the methods of a kind's callbacks on a class, by number
unfoldable pub methods_on : AppParts → (c : ℕ) → Kind → List (Option MethodNo)
methods_on app c kind = map (λ k. as_method (callback_method app c kind k)) (range_with_len 0 (length (callbacks_of kind)))

-- a component of the kind does nothing but its one callback
abbrev pub has_one_callback : Kind → Bool
has_one_callback Activity = false
has_one_callback Service = false
has_one_callback Receiver = true
has_one_callback Runnable = true

-- there is an entry for the callback, and no method in it
abbrev pub is_missing : Option (Option MethodNo) → Bool
is_missing None = false
is_missing (Some None) = true
is_missing (Some (Some m)) = false

-- row i, of class c
abbrev pub row_on : AppParts → (i : ℕ) → ListedParts → (c : ℕ) → Result ComponentParts ListFault
row_on app i row c =
    if has_one_callback row.kind && is_missing (slice_get (methods_on app c row.kind) 0) then Err (fault.NoCallback i)
    else Ok (record { class = record { 0 = c }; kind = row.kind; exits = row.exits; methods = methods_on app c row.kind })

abbrev pub bound_row : AppParts → (i : ℕ) → ListedParts → Result ComponentParts ListFault
bound_row app i row = class_or_fault i (class_named app row.class) >>= row_on app i row

-- row i of the list; asked of its rows alone
abbrev pub bound_at : AppParts → (i : ℕ) → Option ListedParts → Result ComponentParts ListFault
bound_at app i None = Err (fault.NoClass i)
bound_at app i (Some row) = bound_row app i row

-- row by row
unfoldable pub bound_of : AppParts → List ListedParts → Result (List ComponentParts) ListFault
bound_of app listed = rows_below (λ i. bound_at app i (slice_get listed i)) (length listed)

-- ---- what the calls that bind keep: the numbers of callbacks, and classes by name
abbrev pub as_name : Option ℕ → Option NameNo
as_name n = option_map (λ number. record { 0 = number }) n

abbrev pub as_proto : Option ℕ → Option ProtoNo
as_proto p = option_map (λ number. record { 0 = number }) p

-- the numbers of the name and of the prototype of callback k, where the application has them
abbrev pub numbers_at : AppParts → Kind → (k : ℕ) → Callback
numbers_at app kind k = record {
  name = as_name (option_and_then (name_number app) (slice_get (callbacks_of kind) k));
  proto = as_proto (option_and_then (proto_number app) (slice_get (prototypes_of kind) k));
}

abbrev pub numbers_of : AppParts → Kind → List Callback
numbers_of app kind = map (numbers_at app kind) (range_with_len 0 (length (callbacks_of kind)))

-- the map gives a class to each name
abbrev pub HasNames : AppParts → List (Bor (List ℕ) × ℕ) → Type 0
HasNames app names = (name : Bor (List ℕ)) → lookup (λ (known : Bor (List ℕ)). bytes_eq name.now known.now) names ≡ class_named app name.now

pub record HasNumbers (app : AppParts) (callbacks : Callbacks) : Type 0 where
  pub activity : callbacks.activity.items ≡ numbers_of app Activity
  pub service : callbacks.service.items ≡ numbers_of app Service
  pub receiver : callbacks.receiver.items ≡ numbers_of app Receiver
  pub runnable : callbacks.runnable.items ≡ numbers_of app Runnable
