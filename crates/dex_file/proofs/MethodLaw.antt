-- The methods of a class as they are read and as they stand in the file are the same.
use Rattle.std.proofs.Common.{◌≡◌, ◌≢◌, ℕ, ◌+◌, ◌≤◌, inl, inr, List, [], ◌∷◌, ◌++◌, length, Option, Some, None, Result, Ok, refl, sym, ap, arith, ◌∙◌, append_assoc, append-nil}
use Rattle.std.specs.List.{sum_by}
use Rattle.std.proofs.lemmas.Bool.{cases_eq, eq-eqb, ne_eqb}
use Rattle.ns_base.specs.Answers.{limit_of}
use Rattle.ns_base.specs.declared.answers.Counted.TheVariants.{Units, Handlers}
use Rattle.dex_code.specs.declared.members.Member.{Member}
use Rattle.dex_code.specs.CodeItem.{code_len, code_tries}
use Rattle.dex_code.specs.HandlerPart.{handlers_before}
use Rattle.dex_code.specs.Content.{CodeContent, IsCodeOf}
use Rattle.dex_code.specs.Reading.{code_at}
use Rattle.dex_code.proofs.CodeLaw.{code_read}
use Rattle.dex_code.proofs.CodeReads.{code_reads}
use Rattle.dalvik.specs.Body.{BodyRows}
use Rattle.method_graph.specs.Graph.{graph_of}
use Rattle.dex_file.specs.declared.fault.FileFault.{FileFault}
use Rattle.dex_file.specs.declared.parts.FileCode.{FileCode}
use Rattle.dex_file.specs.declared.parts.FileMethod.{FileMethod}
use Rattle.dex_file.specs.declared.sums.Sums.{Sums}
use Rattle.dex_file.specs.Content.{method_of, IsOwnCode, IsMethodOf, AreMethodsOf, no_methods, method, unit_count, handler_count}
use Rattle.dex_file.specs.Exact.{◌>>=◌, reached, in_dex, in_code}
use Rattle.dex_file.specs.Reading.{added, with_code, ReadMethods, with_row, with_method}
use Rattle.dex_file.proofs.Chains.{bind_ok, bind_by, ok_same, in_dex_ok, in_code_ok, added_ok, added_by, sum_by-more}

-- the sums with so many units and handlers more, within the limits
pub record AreMore (before now : Sums) (u h : ℕ) : Type 0 where
  pub members : now.members ≡ before.members
  pub units : now.units ≡ before.units + u
  pub handlers : now.handlers ≡ before.handlers + h
  pub unit_limit : before.units ≤ limit_of Units → now.units ≤ limit_of Units
  pub handler_limit : before.handlers ≤ limit_of Handlers → now.handlers ≤ limit_of Handlers

pub none_more : (sums : Sums) → AreMore sums sums 0 0
none_more sums = record {
  members = refl;
  units = omega arith;
  handlers = omega arith;
  unit_limit = λ low. low;
  handler_limit = λ low. low;
}

pub more_more : (a b c : Sums) (u h v k : ℕ) → AreMore a b u h → AreMore b c v k → AreMore a c (u + v) (h + k)
more_more a b c u h v k first second = record {
  members = second.members ∙ first.members;
  units = let x = first.units in let y = second.units in omega arith;
  handlers = let x = first.handlers in let y = second.handlers in omega arith;
  unit_limit = λ low. second.unit_limit (first.unit_limit low);
  handler_limit = λ low. second.handler_limit (first.handler_limit low);
}

same_more : (a b : Sums) (u h v k : ℕ) → u ≡ v → h ≡ k → AreMore a b u h → AreMore a b v k
same_more a b u h v k e f more = rw (← e, ← f) more

-- a code item
code_more : (a b : Sums) (item : CodeContent) → with_code a item ≡ Ok b → AreMore a b (length item.units) (length item.handlers)
unfolding with_code
code_more a b item h =
    let units = bind_ok (added Units a.units (length item.units)) _ b h in
    let handlers = bind_ok (added Handlers a.handlers (length item.handlers)) _ b units.2 in
    let u = added_ok Units a.units (length item.units) units.0 units.1 in
    let k = added_ok Handlers a.handlers (length item.handlers) handlers.0 handlers.1 in
    let is = ok_same _ _ handlers.2 in
    rw (← is) (record {
      members = refl;
      units = u.0;
      handlers = k.0;
      unit_limit = λ low. rw u.0 u.1;
      handler_limit = λ low. rw k.0 k.1;
    })

units_of : (bs : List ℕ) (p : ℕ) (item : CodeContent) → IsCodeOf bs p item → length item.units ≡ code_len bs p
units_of bs p item is = is.units.count

handlers_of : (bs : List ℕ) (p : ℕ) (item : CodeContent) → IsCodeOf bs p item → length item.handlers ≡ handlers_before bs p (code_tries bs p)
handlers_of bs p item is = is.handlers.count

-- a method that was read
pub record IsMethodRead (bs : List ℕ) (x : ReadMethods) (member : Member) (y : ReadMethods) : Type 0 where
  pub own : FileMethod
  pub is : IsMethodOf bs member own
  pub methods : y.methods ≡ x.methods ++ own ∷ []
  pub sums : AreMore x.sums y.sums (unit_count bs member) (handler_count bs member)

none_read : (bs : List ℕ) (x : ReadMethods) (member : Member) (y : ReadMethods) → member.code ≡ 0 → with_row x member x.sums None ≡ y → IsMethodRead bs x member y
none_read bs x member y none is =
    let test = eq-eqb member.code 0 none in
    rw (← is) (record {
      own = method_of member None;
      is = record { row = refl; own = none };
      methods = refl;
      sums = rw test (none_more x.sums);
    })

some_read : (bs : List ℕ) (x : ReadMethods) (member : Member) (y : ReadMethods) (item : CodeContent) (sums : Sums) (body : BodyRows) → member.code ≢ 0 → code_at bs member.code ≡ Ok item → with_code x.sums item ≡ Ok sums → graph_of bs member.id member.flags item ≡ Ok body → with_row x member sums (Some (record { ins = item.ins; body = body })) ≡ y → IsMethodRead bs x member y
some_read bs x member y item sums body some read counted graph is =
    let test = ne_eqb member.code 0 some in
    let stands = code_read bs member.code item read in
    rw (← is) (record {
      own = method_of member (Some (record { ins = item.ins; body = body }));
      is = record { row = refl; own = record { item = item; offset = some; stands = stands; ins = refl; graph = graph } };
      methods = refl;
      sums = rw test (same_more _ _ _ _ _ _ (units_of bs member.code item stands) (handlers_of bs member.code item stands) (code_more x.sums sums item counted));
    })

-- what follows each part of a method
after_graph : ReadMethods → Member → CodeContent → Sums → BodyRows → Result ReadMethods FileFault
after_graph x member item sums body = Ok (with_row x member sums (Some (record { ins = item.ins; body = body })))

after_sums : List ℕ → ReadMethods → Member → CodeContent → Sums → Result ReadMethods FileFault
after_sums bs x member item sums = in_code member.id (graph_of bs member.id member.flags item) >>= after_graph x member item sums

after_item : List ℕ → ReadMethods → Member → CodeContent → Result ReadMethods FileFault
after_item bs x member item = with_code x.sums item >>= after_sums bs x member item

method_read : (bs : List ℕ) (x : ReadMethods) (member : Member) (y : ReadMethods) → with_method bs x member ≡ Ok y → IsMethodRead bs x member y
unfolding with_method after_item after_sums after_graph
method_read bs x member y h =
    elim (cases_eq member.code 0) [
      | inl none ↦ none_read bs x member y none (ok_same (with_row x member x.sums None) y (rw (eq-eqb member.code 0 none) at h))
      | inr some ↦
          let chain = rw (ne_eqb member.code 0 some) at h in
          let item = bind_ok (in_dex (code_at bs member.code)) (after_item bs x member) y chain in
          let sums = bind_ok (with_code x.sums item.0) (after_sums bs x member item.0) y item.2 in
          let body = bind_ok (in_code member.id (graph_of bs member.id member.flags item.0)) (after_graph x member item.0 sums.0) y sums.2 in
          some_read bs x member y item.0 sums.0 body.0 some (in_dex_ok (code_at bs member.code) item.0 item.1) sums.1
          (in_code_ok member.id (graph_of bs member.id member.flags item.0) body.0 body.1)
          (ok_same (with_row x member sums.0 (Some (record { ins = item.0.ins; body = body.0 }))) y body.2)
    ]

-- methods that were read
pub record AreMethodsRead (bs : List ℕ) (x : ReadMethods) (members : List Member) (y : ReadMethods) : Type 0 where
  pub own : List FileMethod
  pub are : AreMethodsOf bs members own
  pub methods : y.methods ≡ x.methods ++ own
  pub sums : AreMore x.sums y.sums (sum_by (unit_count bs) members) (sum_by (handler_count bs) members)

no_more_read : (bs : List ℕ) (x y : ReadMethods) → x ≡ y → AreMethodsRead bs x [] y
no_more_read bs x y is = rw (← is) (record { own = []; are = no_methods; methods = sym (append-nil x.methods); sums = none_more x.sums })

one_more_read : (bs : List ℕ) (x y z : ReadMethods) (member : Member) (members : List Member) → IsMethodRead bs x member y → AreMethodsRead bs y members z → AreMethodsRead bs x (member ∷ members) z
one_more_read bs x y z member members one rest = record {
  own = one.own ∷ rest.own;
  are = method one.is rest.are;
  methods = rest.methods ∙ ap (λ (ms : List FileMethod). ms ++ rest.own) one.methods ∙ append_assoc x.methods (one.own ∷ []) rest.own;
  sums = same_more _ _ _ _ _ _ (sym (sum_by-more (unit_count bs) member members)) (sym (sum_by-more (handler_count bs) member members)) (more_more _ _ _ _ _ _ _ one.sums rest.sums);
}

pub methods_read : (bs : List ℕ) (members : List Member) (x y : ReadMethods) → reached (with_method bs) x members ≡ Ok y → AreMethodsRead bs x members y
methods_read bs [] x y h = no_more_read bs x y (ok_same _ _ h)
methods_read bs (member ∷ members) x y h =
    let one = bind_ok (with_method bs x member) (λ z. reached (with_method bs) z members) y h in
    one_more_read bs x one.0 y member members (method_read bs x member one.0 one.1) (methods_read bs members one.0 y one.2)

-- the sums with so many more
unfoldable pub grown : Sums → (u h : ℕ) → Sums
grown sums u h = record { members = sums.members; units = sums.units + u; handlers = sums.handlers + h }

-- and back: a code item that stands there is read
code_by : (sums : Sums) (item : CodeContent) → sums.units + length item.units ≤ limit_of Units → sums.handlers + length item.handlers ≤ limit_of Handlers → with_code sums item ≡ Ok (grown sums (length item.units) (length item.handlers))
unfolding with_code grown
code_by sums item units handlers = rw (added_by Units sums.units (length item.units) units, added_by Handlers sums.handlers (length item.handlers) handlers) refl

pub grown_none : (sums : Sums) → grown sums 0 0 ≡ sums
unfolding grown
grown_none sums =
    let u : sums.units + 0 ≡ sums.units = omega arith in
    let h : sums.handlers + 0 ≡ sums.handlers = omega arith in
    rw (u, h) refl

pub grown_twice : (sums : Sums) (u h v k : ℕ) → grown (grown sums u h) v k ≡ grown sums (u + v) (h + k)
unfolding grown
grown_twice sums u h v k =
    let a : sums.units + u + v ≡ sums.units + (u + v) = omega arith in
    let b : sums.handlers + h + k ≡ sums.handlers + (h + k) = omega arith in
    rw (a, b) refl

own_by : (bs : List ℕ) (x : ReadMethods) (member : Member) (own : Option FileCode) → IsOwnCode bs member own → x.sums.units + unit_count bs member ≤ limit_of Units → x.sums.handlers + handler_count bs member ≤ limit_of Handlers → with_method bs x member ≡ Ok (with_row x member (grown x.sums (unit_count bs member) (handler_count bs member)) own)
unfolding with_method
own_by bs x member None none units handlers = rw (eq-eqb member.code 0 none, grown_none x.sums) refl
own_by bs x member (Some own) is units handlers =
    let test = ne_eqb member.code 0 is.offset in
    let u = units_of bs member.code is.item is.stands in
    let h = handlers_of bs member.code is.item is.stands in
    rw (test, code_reads bs member.code is.item is.stands, ← u, ← h, code_by x.sums is.item (rw (test, ← u) at units) (rw (test, ← h) at handlers), is.graph, ← is.ins) refl

method_by : (bs : List ℕ) (x : ReadMethods) (member : Member) (own : FileMethod) → IsMethodOf bs member own → x.sums.units + unit_count bs member ≤ limit_of Units → x.sums.handlers + handler_count bs member ≤ limit_of Handlers → with_method bs x member ≡ Ok (record { sums = grown x.sums (unit_count bs member) (handler_count bs member); methods = x.methods ++ own ∷ [] })
method_by bs x member own is units handlers =
    own_by bs x member own.code is.own units handlers
    ∙ ap (λ (m : FileMethod). Ok (record { sums = grown x.sums (unit_count bs member) (handler_count bs member); methods = x.methods ++ m ∷ [] })) (sym is.row)

same_read : (a b : Sums) (xs ys : List FileMethod) → a ≡ b → xs ≡ ys → ◌≡◌ {A = ReadMethods} (record { sums = a; methods = xs }) (record { sums = b; methods = ys })
same_read a b xs ys e f = rw (e, f) refl

pub methods_by : (bs : List ℕ) (members : List Member) (own : List FileMethod) (x : ReadMethods) → AreMethodsOf bs members own → x.sums.units + sum_by (unit_count bs) members ≤ limit_of Units → x.sums.handlers + sum_by (handler_count bs) members ≤ limit_of Handlers → reached (with_method bs) x members ≡ Ok (record { sums = grown x.sums (sum_by (unit_count bs) members) (sum_by (handler_count bs) members); methods = x.methods ++ own })
unfolding grown
methods_by bs [] [] x no_methods units handlers = ap Ok (same_read x.sums _ x.methods _ (sym (grown_none x.sums)) (sym (append-nil x.methods)))
methods_by bs [] (own ∷ more) x are units handlers = elim are [ ]
methods_by bs (member ∷ members) [] x are units handlers = elim are [ ]
methods_by bs (member ∷ members) (own ∷ more) x (method is are) units handlers =
    let us = sum_by-more (unit_count bs) member members in
    let hs = sum_by-more (handler_count bs) member members in
    let y : ReadMethods = record { sums = grown x.sums (unit_count bs member) (handler_count bs member); methods = x.methods ++ own ∷ [] } in
    bind_by (with_method bs x member) (λ z. reached (with_method bs) z members) y _
    (method_by bs x member own is (omega arith) (omega arith))
    (methods_by bs members more y are (omega arith) (omega arith)
    ∙ ap Ok (same_read _ _ _ _
    (grown_twice x.sums (unit_count bs member) (handler_count bs member) (sum_by (unit_count bs) members) (sum_by (handler_count bs) members) ∙ rw (us, hs) refl)
    (append_assoc x.methods (own ∷ []) more)))
