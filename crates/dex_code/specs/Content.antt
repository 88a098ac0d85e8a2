-- The members of a class and a code item, as lists, and when they are what stands in the file.
use Rattle.std.specs.Prelude.{ℕ, ◌+◌, ◌*◌, ◌<◌, ◌≤◌, ◌≡◌, ◌≢◌, List, [], length, slice_index_or}
use Rattle.ns_base.specs.Answers.{limit_of}
use Rattle.ns_base.specs.declared.answers.Counted.TheVariants.{Members, Units, Handlers}
use Rattle.dex_bytes.specs.Places.{IsUleb, number_place}
use Rattle.dex_tables.specs.Content.{AreRows}
use Rattle.dex_tables.specs.Rows.{class_data}
use Rattle.dex_code.specs.declared.members.Member.{Member}
use Rattle.dex_code.specs.declared.code.Handler.{Handler}
use Rattle.dex_code.specs.declared.code.TryRow.{TryRow}
use Rattle.dex_code.specs.ClassData.{static_count, instance_count, direct_count, virtual_count, number_count, EntryList, statics_of, instances_of, directs_of, virtuals_of, entry_of, IsSoundEntry}
use Rattle.dex_code.specs.CodeItem.{code_registers, code_ins, code_outs, code_tries, code_len, code_unit, try_place, try_start, try_count, covered_before, handlers_place}
use Rattle.dex_code.specs.HandlerPart.{BeginsList, IsHandlerPart, handler_count, handler_of, IsSoundHandler, try_list, handlers_before, try_row}

-- the members of a class, list by list
pub record MemberLists : Type 0 where
  pub statics : List Member
  pub instances : List Member
  pub directs : List Member
  pub virtuals : List Member

-- these are the entries of a list of the class data at p, and all are sound
pub record AreEntries (bs : List ℕ) (class p : ℕ) (l : EntryList) (entries : List Member) : Type 0 where
  pub rows : AreRows entries l.count (entry_of bs p l)
  pub sound : (i : ℕ) → i < l.count → IsSoundEntry bs class p l i

-- these are the members of the class data at p
pub record AreMembersAt (bs : List ℕ) (class p : ℕ) (members : MemberLists) : Type 0 where
  pub numbers : (k : ℕ) → k < number_count bs p → IsUleb bs (number_place bs p k)
  pub statics : AreEntries bs class p (statics_of bs p) members.statics
  pub instances : AreEntries bs class p (instances_of bs p) members.instances
  pub directs : AreEntries bs class p (directs_of bs p) members.directs
  pub virtuals : AreEntries bs class p (virtuals_of bs p) members.virtuals
  pub limit : static_count bs p + instance_count bs p + direct_count bs p + virtual_count bs p ≤ limit_of Members

abbrev pub no_members : MemberLists
no_members = record { statics = []; instances = []; directs = []; virtuals = [] }

-- these are the members of a class: none where it has no class data
pub record AreMembersOf (bs : List ℕ) (class : ℕ) (members : MemberLists) : Type 0 where
  pub absent : class_data bs class ≡ 0 → members ≡ no_members
  pub present : class_data bs class ≢ 0 → AreMembersAt bs class (class_data bs class) members

-- a code item: its registers, its units, its tries, and the handlers of all tries one after another
pub record CodeContent : Type 0 where
  pub registers : ℕ
  pub ins : ℕ
  pub outs : ℕ
  pub units : List ℕ
  pub tries : List TryRow
  pub handlers : List Handler

-- try t lies in the file; it covers units, behind those of the tries before it; a list begins where its
-- handlers should stand, and they are sound
pub record IsSoundTry (bs : List ℕ) (p t : ℕ) : Type 0 where
  pub in_file : try_place bs p t + 8 ≤ length bs
  pub some : 0 < try_count bs p t
  pub within : try_start bs p t + try_count bs p t ≤ code_len bs p
  pub behind : covered_before bs p t ≤ try_start bs p t
  pub list : BeginsList bs (handlers_place bs p) (try_list bs p t)
  pub handlers : (k : ℕ) → k < handler_count bs (try_list bs p t) → IsSoundHandler bs p (try_list bs p t) k

-- these are the handlers of all tries
pub record AreHandlers (bs : List ℕ) (p : ℕ) (handlers : List Handler) : Type 0 where
  pub count : length handlers ≡ handlers_before bs p (code_tries bs p)
  pub each : (t k : ℕ) (d : Handler) → t < code_tries bs p → k < handler_count bs (try_list bs p t)
      → slice_index_or handlers (handlers_before bs p t + k) d ≡ handler_of bs (try_list bs p t) k

-- this is the code item at p
pub record IsCodeOf (bs : List ℕ) (p : ℕ) (code : CodeContent) : Type 0 where
  pub front : p + 16 ≤ length bs
  pub registers : code.registers ≡ code_registers bs p
  pub ins : code.ins ≡ code_ins bs p
  pub outs : code.outs ≡ code_outs bs p
  pub room : code_ins bs p ≤ code_registers bs p
  pub in_file : p + 16 + 2 * code_len bs p ≤ length bs
  pub unit_limit : code_len bs p ≤ limit_of Units
  pub units : AreRows code.units (code_len bs p) (code_unit bs p)
  pub part : 0 < code_tries bs p → IsHandlerPart bs (handlers_place bs p)
  pub sound : (t : ℕ) → t < code_tries bs p → IsSoundTry bs p t
  pub tries : AreRows code.tries (code_tries bs p) (try_row bs p)
  pub handlers : AreHandlers bs p code.handlers
  pub handler_limit : length code.handlers ≤ limit_of Handlers
