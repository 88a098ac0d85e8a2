-- The edges of a lifecycle.
use Rattle.std.proofs.Common.{◌≡◌, ℕ, ◌<◌, Bool, true, get_or, length, Option, Some, None, refl}
use Rattle.std.specs.Prelude.{◌&&◌, nat_lt, slice_get, IfSome}
use Rattle.std.specs.List.{list_all}
use Rattle.std.proofs.lemmas.Bool.{and_parts, ltb-true}
use Rattle.std.proofs.lemmas.List.Sums.{AllPass-from_list_all}
use Rattle.std.proofs.lemmas.Option.{slice_get_within, get_or_from_slice_get}
use Rattle.app_model.specs.Components.{edges_of}
use Rattle.app_model.specs.declared.component.Edge.{Edge}
use Rattle.app_model.specs.declared.component.Kind.{Kind}
use Rattle.app_model.specs.declared.component.Kind.TheVariants.{Activity, Service, Receiver, Runnable}

abbrev small : Edge → Bool
small edge = nat_lt edge.from 8 && nat_lt edge.to 8

all_small : (kind : Kind) → list_all small (edges_of kind) ≡ true
all_small Activity = refl
all_small Service = refl
all_small Receiver = refl
all_small Runnable = refl

pub edge_small : (kind : Kind) (k : ℕ) → IfSome (slice_get (edges_of kind) k) (λ e. (e.from < 8) × (e.to < 8))
edge_small kind k = go (slice_get (edges_of kind) k) refl
  where
    go : (o : Option Edge) → slice_get (edges_of kind) k ≡ o → IfSome o (λ e. (e.from < 8) × (e.to < 8))
    go None is = tt
    go (Some e) is =
        let passes : small (get_or (edges_of kind) k e) ≡ true = AllPass-from_list_all small (edges_of kind) (all_small kind) k e (slice_get_within (edges_of kind) k e is) in
        let own : small e ≡ true = rw (get_or_from_slice_get (edges_of kind) k e e is) at passes in
        let both = and_parts (nat_lt e.from 8) (nat_lt e.to 8) own in
        (ltb-true e.from 8 both.0, ltb-true e.to 8 both.1)

pub edge_within : (kind : Kind) (k : ℕ) (e : Edge) → slice_get (edges_of kind) k ≡ Some e → k < length (edges_of kind)
edge_within kind k e is = slice_get_within (edges_of kind) k e is
