-- An application as contracts see it: plain records and lists.
use Rattle.std.specs.Prelude.{ℕ, List, Option}
use Rattle.ns_base.specs.declared.rows.TypeNo.{TypeNo}
use Rattle.ns_base.specs.declared.rows.FieldNo.{FieldNo}
use Rattle.app_model.specs.declared.rows.MethodRow.{MethodRow}
use Rattle.app_model.specs.declared.rows.FieldRow.{FieldRow}
use Rattle.app_model.specs.declared.rows.Operand.{Operand}
use Rattle.dalvik.specs.Body.{BodyRows}

pub record ClassParts : Type 0 where
  pub name : TypeNo
  pub parent : Option TypeNo
  pub interfaces : List TypeNo
  pub flags : ℕ

pub record ProtoParts : Type 0 where
  pub result : TypeNo
  pub params : List TypeNo

pub record AppParts : Type 0 where
  pub types : List (List ℕ)
  pub names : List (List ℕ)
  pub protos : List ProtoParts
  pub classes : List ClassParts
  pub methods : List MethodRow
  pub fields : List FieldRow
  pub locks : List FieldNo
  pub code : List BodyRows
  pub operands : List (List Operand)
