-- The method that an invoke names, by its rows.
use Rattle.std.proofs.Common.{◌≡◌, ℕ, ◌&&◌, ◌||◌, Bool, refl, ◌∙◌, Option, Some, None}
use Rattle.app_model.specs.declared.rows.Named.{Named}
use Rattle.app_model.specs.Names.{name_text}
use Rattle.app_model.specs.Parts.{AppParts}
use Rattle.flow_model.specs.Breaks as breaks
use Rattle.flow_model.specs.Breaks.{loads_code, reflects}
use Rattle.scope_facts.specs.declared.kinds.KindRow.{KindRow}
use Rattle.scope_facts.specs.declared.names.NameRow.{NameRow}
use Rattle.scope_check.specs.Tests.{IsCalled, is_thread_call}
use Rattle.scope_facts.specs.Texts.{IsKind, IsName}

loads_told : (app : AppParts) (named : Named) (kind : KindRow) (name : NameRow) → IsKind app named.class.0 kind → IsName (name_text app named.name.0) name → (kind.system && name.loads) ≡ loads_code app named
unfolding loads_code
loads_told app named kind name k n = rw (k.system, n.loads) refl

reflects_told : (app : AppParts) (named : Named) (kind : KindRow) (name : NameRow) → IsKind app named.class.0 kind → IsName (name_text app named.name.0) name → ((kind.class && name.makes) || kind.reflective) ≡ reflects app named
unfolding reflects
reflects_told app named kind name k n = rw (k.class, n.makes, k.reflective) refl

thread_told : (app : AppParts) (op : Option ℕ) (named : Named) (kind : KindRow) → IsKind app named.class.0 kind → is_thread_call op kind ≡ breaks.is_thread_call app op named
thread_told app None named kind k = refl
thread_told app (Some op) named kind k = rw (k.thread, k.executors) refl

pub called_told : (app : AppParts) (op : Option ℕ) (named : Named) (kind : KindRow) (name : NameRow) (thread : Bool) → IsKind app named.class.0 kind → IsName (name_text app named.name.0) name → thread ≡ is_thread_call op kind
    → IsCalled app op (Some named) (record { loads = kind.system && name.loads; reflects = (kind.class && name.makes) || kind.reflective; thread = thread })
called_told app op named kind name thread k n is = record { loads = loads_told app named kind name k n; reflects = reflects_told app named kind name k n; thread = is ∙ thread_told app op named kind k }
