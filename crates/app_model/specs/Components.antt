-- Components, the edges of their lifecycles in order, and the methods of their callbacks.
use Rattle.std.specs.Prelude.{ℕ, ◌≡◌, ◌≢◌, ◌<◌, ◌≤◌, ◌^◌, true, false, List, [], ◌∷◌, length, filter_map, flat_map, Option, Some, None, slice_get, position, bytes_eq, codes}
use Rattle.std.specs.List.{All, AllPairs}
use Rattle.std.specs.Option.{option_and_then}
use Rattle.ns_base.specs.Answers.{limit_of}
use Rattle.ns_base.specs.declared.answers.Counted.TheVariants.{Components}
use Rattle.ns_base.specs.declared.rows.ClassNo.{ClassNo}
use Rattle.ns_base.specs.declared.rows.MethodNo.{MethodNo}
use Rattle.app_model.specs.declared.component.Edge.{Edge}
use Rattle.app_model.specs.declared.component.Kind.{Kind}
use Rattle.app_model.specs.declared.component.Kind.TheVariants.{Activity, Service, Receiver, Runnable}
use Rattle.app_model.specs.Hierarchy.{lookup_of}
use Rattle.app_model.specs.Names.{has_types}
use Rattle.app_model.specs.Parts.{AppParts, ClassParts, ProtoParts}

-- a listed component: `methods` has the method of each callback, where the application has one
pub record ComponentParts : Type 0 where
  pub class : ClassNo
  pub kind : Kind
  pub exits : ℕ
  pub methods : List (Option MethodNo)

abbrev pub activity_callbacks : List (List ℕ)
activity_callbacks =
    codes "onCreate" ∷ codes "onStart" ∷ codes "onResume" ∷ codes "onPause" ∷ codes "onStop" ∷ codes "onRestart" ∷ codes "onDestroy" ∷ []

abbrev pub service_callbacks : List (List ℕ)
service_callbacks =
    codes "onCreate" ∷ codes "onStartCommand" ∷ codes "onStart" ∷ codes "onBind" ∷ codes "onUnbind" ∷ codes "onRebind" ∷ codes "onDestroy" ∷ []

-- the names of a kind's callbacks, by number
abbrev pub callbacks_of : Kind → List (List ℕ)
callbacks_of Activity = activity_callbacks
callbacks_of Service = service_callbacks
callbacks_of Receiver = codes "onReceive" ∷ []
callbacks_of Runnable = codes "run" ∷ []

-- the descriptors of a callback's result and of its parameters
pub record Prototype : Type 0 where
  pub result : List ℕ
  pub params : List (List ℕ)

abbrev pub taking : List (List ℕ) → (result : List ℕ) → Prototype
taking params result = record { result = result; params = params }

abbrev pub bundle_name : List ℕ
bundle_name = codes "Landroid/os/Bundle;"

abbrev pub binder_name : List ℕ
binder_name = codes "Landroid/os/IBinder;"

abbrev pub intent_name : List ℕ
intent_name = codes "Landroid/content/Intent;"

abbrev pub context_name : List ℕ
context_name = codes "Landroid/content/Context;"

-- no parameters and no result
abbrev pub bare : Prototype
bare = taking [] (codes "V")

abbrev pub activity_prototypes : List Prototype
activity_prototypes =
    taking (bundle_name ∷ []) (codes "V") ∷ bare ∷ bare ∷ bare ∷ bare ∷ bare ∷ bare ∷ []

abbrev pub service_prototypes : List Prototype
service_prototypes =
    bare
    ∷ taking (intent_name ∷ codes "I" ∷ codes "I" ∷ []) (codes "I")
    ∷ taking (intent_name ∷ codes "I" ∷ []) (codes "V")
    ∷ taking (intent_name ∷ []) binder_name
    ∷ taking (intent_name ∷ []) (codes "Z")
    ∷ taking (intent_name ∷ []) (codes "V")
    ∷ bare ∷ []

-- the prototypes of a kind's callbacks, by number
abbrev pub prototypes_of : Kind → List Prototype
prototypes_of Activity = activity_prototypes
prototypes_of Service = service_prototypes
prototypes_of Receiver = taking (context_name ∷ intent_name ∷ []) (codes "V") ∷ []
prototypes_of Runnable = bare ∷ []

-- from a state, by a callback, to a state
abbrev pub edge : (from callback to : ℕ) → Edge
edge from callback to = record { from = from; to = to; callback = callback; creates = false }

abbrev pub creating : (from callback to : ℕ) → Edge
creating from callback to = record { from = from; to = to; callback = callback; creates = true }

abbrev pub activity_edges : List Edge
activity_edges =
    creating 0 0 1 ∷ edge 1 1 2 ∷ edge 1 6 0 ∷ edge 2 2 3 ∷ edge 2 4 5 ∷ edge 3 3 4 ∷ edge 4 2 3 ∷ edge 4 4 5 ∷ edge 5 5 6 ∷ edge 5 6 0 ∷ edge 6 1 2 ∷ []

abbrev pub service_edges : List Edge
service_edges =
    creating 0 0 1 ∷ edge 1 1 1 ∷ edge 1 2 1 ∷ edge 1 3 1 ∷ edge 1 4 1 ∷ edge 1 5 1 ∷ edge 1 6 0 ∷ []

-- a lifecycle begins in state 0
abbrev pub edges_of : Kind → List Edge
edges_of Activity = activity_edges
edges_of Service = service_edges
edges_of Receiver = creating 0 0 0 ∷ []
edges_of Runnable = edge 0 0 0 ∷ []

abbrev pub edge_of : Option ComponentParts → ℕ → Option Edge
edge_of None e = None
edge_of (Some component) e = slice_get (edges_of component.kind) e

-- edge e of component c
unfoldable pub edge_at : List ComponentParts → ℕ → ℕ → Option Edge
edge_at list c e = edge_of (slice_get list c) e

abbrev pub method_in : Option (Option MethodNo) → Option ℕ
method_in None = None
method_in (Some None) = None
method_in (Some (Some method)) = Some method.0

abbrev pub method_of : Option ComponentParts → ℕ → Option ℕ
method_of None k = None
method_of (Some component) k = method_in (slice_get component.methods k)

-- the method of callback k of component c, where the application has one
unfoldable pub callback_at : List ComponentParts → ℕ → ℕ → Option ℕ
callback_at list c k = method_of (slice_get list c) k

abbrev pub exits_of : Option ComponentParts → ℕ
exits_of None = 0
exits_of (Some component) = component.exits

-- the policy exits of component c, as a mask over its callbacks
unfoldable pub exits_at : List ComponentParts → ℕ → ℕ
exits_at list c = exits_of (slice_get list c)

-- the methods of all callbacks: where runs of the application enter it
unfoldable pub entries_of : List ComponentParts → List MethodNo
entries_of list = flat_map (λ (c : ComponentParts). filter_map (λ (m : Option MethodNo). m) c.methods) list

-- ---- which method is a callback
-- the number of a name, and that of a prototype, where the application names them
unfoldable pub name_number : AppParts → List ℕ → Option ℕ
name_number app name = position (bytes_eq name) app.names

unfoldable pub proto_number : AppParts → Prototype → Option ℕ
proto_number app p = position (λ (proto : ProtoParts). has_types app (Some proto) p.result p.params) app.protos

abbrev pub found_on : AppParts → Option ClassParts → (name proto : Option ℕ) → Option ℕ
found_on app (Some class) (Some name) (Some proto) = lookup_of app class.name.0 name proto
found_on app class name proto = None

-- the method that is callback k of a component of that class and kind, where the application has one
unfoldable pub callback_method : AppParts → (class : ℕ) → Kind → (k : ℕ) → Option ℕ
callback_method app class kind k =
    found_on app (slice_get app.classes class) (option_and_then (name_number app) (slice_get (callbacks_of kind) k))
    (option_and_then (proto_number app) (slice_get (prototypes_of kind) k))

-- ---- a component list of an application
pub record IsListed (app : AppParts) (row : ComponentParts) : Type 0 where
  pub class : row.class.0 < length app.classes
  -- they name callbacks of the kind
  pub exits : row.exits < 2 ^ length (callbacks_of row.kind)
  pub entries : length row.methods ≡ length (callbacks_of row.kind)
  pub methods : (k : ℕ) → method_in (slice_get row.methods k) ≡ callback_method app row.class.0 row.kind k

pub record BelongsTo (app : AppParts) (list : List ComponentParts) : Type 0 where
  pub limit : length list ≤ limit_of Components
  pub distinct : AllPairs (λ (a b : ComponentParts). a.class ≢ b.class) list
  pub each : All (IsListed app) list
