-- The code of a method fits it, and its instructions are sound.
use Rattle.std.proofs.Common.{◌≡◌, ℕ, ◌<◌, ◌≤◌, List, [], ◌∷◌, get_or, sum_by, All, Option, Some, None, refl, ap, subst, arith}
use Rattle.std.proofs.lemmas.Bool.{ne_eqb}
use Rattle.std.proofs.lemmas.List.Elements.{All-nil, All-cons, All-head, All-tail}
use Rattle.std.proofs.lemmas.List.Sums.{sum_by-cons}
use Rattle.dex_tables.specs.Rows.{method_count}
use Rattle.dex_code.specs.declared.members.Member.{Member}
use Rattle.method_graph.proofs.SoundGraph.{IsGraphOf, graph_body, graph_sound}
use Rattle.dex_file.specs.declared.parts.FileCode.{FileCode}
use Rattle.dex_file.specs.declared.parts.FileMethod.{FileMethod}
use Rattle.dex_file.specs.Content.{FileContent, IsBodyAt, IsOwnCode, IsMethodOf, AreMethodsOf, no_methods, method, unit_count}
use Rattle.dex_file.specs.Sound.{IsSoundCode, IsSoundMember, instructions_of}
use Rattle.dex_file.proofs.SoundTables.{AreRowsOf}
use Rattle.dex_file.proofs.SoundCalls.{sound_ins}

-- the graph of a body is that of its code
graph_is : (bs : List ℕ) (member : Member) (own : FileCode) (is : IsBodyAt bs member own) → IsGraphOf bs is.item own.body
graph_is bs member own is = graph_sound bs member.id member.flags is.item own.body is.graph

sound_code : (bs : List ℕ) (file : FileContent) → AreRowsOf bs file → (member : Member) (own : FileCode) → IsBodyAt bs member own → IsSoundCode file own
sound_code bs file has member own is =
    let graph = graph_is bs member own is in
    record {
      body = graph_body bs member.id member.flags is.item own.body (member.code, is.stands) is.graph;
      begins = graph.begins;
      fits = omega (arith, is.ins, is.stands.ins, is.stands.room, is.stands.registers, graph.registers);
      each = λ k d low. sound_ins bs file has (get_or own.body.places k d).ins (graph.named k d low) (graph.arguments k d low);
    }

sound_member : (bs : List ℕ) (file : FileContent) → AreRowsOf bs file → (member : Member) (own : FileMethod) → member.id < method_count bs
    → IsMethodOf bs member own → IsSoundMember file own
sound_member bs file has member own low is = record {
  id = omega (arith, low, has.methods.count, ap (λ (m : FileMethod). m.id) is.row);
  code = λ code some. sound_code bs file has member code (subst (IsOwnCode bs member) some is.own);
}

pub sound_members : (bs : List ℕ) (file : FileContent) → AreRowsOf bs file → (members : List Member) (methods : List FileMethod) → AreMethodsOf bs members methods
    → All (λ (m : Member). m.id < method_count bs) members → All (IsSoundMember file) methods
sound_members bs file has [] [] no_methods low = All-nil (IsSoundMember file)
sound_members bs file has [] (own ∷ methods) are low = elim are [ ]
sound_members bs file has (m ∷ members) [] are low = elim are [ ]
sound_members bs file has (m ∷ members) (own ∷ methods) (method is more) low =
    All-cons (IsSoundMember file) own methods
    (sound_member bs file has m own (All-head (λ (n : Member). n.id < method_count bs) m members low) is)
    (sound_members bs file has members methods more (All-tail (λ (n : Member). n.id < method_count bs) m members low))

-- an instruction has at least one code unit
few_own : (bs : List ℕ) (file : FileContent) → AreRowsOf bs file → (member : Member) (code : Option FileCode) (own : FileMethod) → own.code ≡ code
    → IsOwnCode bs member code → instructions_of own ≤ unit_count bs member
few_own bs file has member None own same is = rw same (omega arith)
few_own bs file has member (Some code) own same is =
    let graph = graph_is bs member code is in
    let units = graph.units in
    let len = is.stands.units.count in
    rw (same, ne_eqb member.code 0 is.offset) (omega (arith, units, len))

pub few_instructions : (bs : List ℕ) (file : FileContent) → AreRowsOf bs file → (members : List Member) (methods : List FileMethod) → AreMethodsOf bs members methods
    → sum_by instructions_of methods ≤ sum_by (unit_count bs) members
few_instructions bs file has [] [] no_methods = omega arith
few_instructions bs file has [] (own ∷ methods) are = elim are [ ]
few_instructions bs file has (m ∷ members) [] are = elim are [ ]
few_instructions bs file has (m ∷ members) (own ∷ methods) (method is more) =
    let first = few_own bs file has m own.code own refl is.own in
    let rest = few_instructions bs file has members methods more in
    omega (arith, sum_by-cons instructions_of own methods, sum_by-cons (unit_count bs) m members, first, rest)
