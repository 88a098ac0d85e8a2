-- Links between methods and the sets of what calls can call. A node is a method, or past all methods a set.
use Rattle.std.specs.Prelude.{ℕ, ◌≡◌, ◌<◌, ◌+◌, ◌⊎◌, List, Contains, Some, slice_get}
use Rattle.ns_base.specs.declared.rows.MethodNo.{MethodNo}
use Rattle.app_model.specs.CallGraph.{GraphParts, callees_of, use_at}
use Rattle.call_reach.specs.declared.links.Link.{Link}
use Rattle.call_reach.specs.Spread.{IsSpread}
use Rattle.call_reach.specs.declared.net.Way.{Way}
use Rattle.call_reach.specs.declared.net.Way.TheVariants.{ToCallees, ToCallers}

abbrev pub link_by : Way → (caller callee : ℕ) → Link
link_by ToCallees caller callee = record { from = caller; to = callee }
link_by ToCallers caller callee = record { from = callee; to = caller }

module _ (graph : GraphParts) (way : Way) (methods : ℕ) where
  -- from a method to the set that an instruction uses
  abbrev pub UsesAt : (m i : ℕ) → Link → Type 0
  UsesAt m i link = (s : ℕ) × (use_at graph m i ≡ Some (Some s)) × (link ≡ link_by way m (methods + s))

  abbrev pub UsesIn : (m : ℕ) → Link → Type 0
  UsesIn m link = (i : ℕ) × UsesAt m i link

  abbrev pub Uses : Link → Type 0
  Uses link = (m : ℕ) × UsesIn m link

  -- from a set to a method that it has
  abbrev pub HasAt : (s k : ℕ) → Link → Type 0
  HasAt s k link = (n : MethodNo) × (slice_get (callees_of graph s) k ≡ Some n) × (link ≡ link_by way (methods + s) n.0)

  abbrev pub HasIn : (s : ℕ) → Link → Type 0
  HasIn s link = (k : ℕ) × HasAt s k link

  abbrev pub Haves : Link → Type 0
  Haves link = (s : ℕ) × HasIn s link

  -- all links of a call graph
  pub record AreLinks (links : List Link) : Type 0 where
    pub only : (link : Link) → Contains links link → Uses link ⊎ Haves link
    pub uses : (link : Link) → Uses link → Contains links link
    pub has : (link : Link) → Haves link → Contains links link

  -- the bits of all nodes were taken on
  abbrev pub IsCarried : (old new : List ℕ) → Type 0
  IsCarried old new = (links : List Link) × AreLinks links × IsSpread links old new

-- a row of links got these
pub record Adds (These : Link → Type 0) (old new : List Link) : Type 0 where
  pub kept : (link : Link) → Contains old link → Contains new link
  pub only : (link : Link) → Contains new link → Contains old link ⊎ These link
  pub all : (link : Link) → These link → Contains new link

-- those of the first places
abbrev pub Before : (ℕ → Link → Type 0) → (bound : ℕ) → Link → Type 0
Before At bound link = (k : ℕ) × (k < bound) × At k link
