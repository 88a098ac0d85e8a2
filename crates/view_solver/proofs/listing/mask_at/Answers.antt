use Rattle.std.proofs.Common.{ℕ, ◌+◌, ◌*◌, ◌<◌, length, refl, sym, subst, arith}
use Rattle.std.proofs.lemmas.List.{get_or_read_under}
use Rattle.std.specs.declared.alloc.Global.{Global}
use Rattle.std.specs.declared.vec.Vec.{Vec}
use Rattle.flow_model.specs.Policy.{IsDerivableViolation}
use Rattle.solution.specs.Words.{IsMask}
use Rattle.view_solver.specs.Reported.{AreLockMasks}
use Rattle.view_solver.proofs.Reported.{masks_there}
use Rattle.view_solver.proofs.listing.mask_at.Goals as goal

pub index-requires : goal.index-requires
index-requires c =
    let there : AreLockMasks c.args.subject.now c.args.lock.0 c.index-all-lock.result.items = subst (λ (v : Vec ℕ Global). AreLockMasks c.args.subject.now c.args.lock.0 v.items) (sym c.index-all-lock.is) (masks_there _ _ _ _ c.index-all-lock.result c.requires.lock c.requires.masks) in
    omega (arith, there.len, c.requires.component, c.requires.callback, c.index-all-lock.result.ok)

pub returns : goal.returns
returns c =
    let there : AreLockMasks c.args.subject.now c.args.lock.0 c.index-all-lock.result.items = subst (λ (v : Vec ℕ Global). AreLockMasks c.args.subject.now c.args.lock.0 v.items) (sym c.index-all-lock.is) (masks_there _ _ _ _ c.index-all-lock.result c.requires.lock c.requires.masks) in
    let below : 8 * c.args.component.0 + c.args.callback < 8 * length c.args.subject.now.list = omega (arith, c.requires.component, c.requires.callback) in
    subst (IsMask (IsDerivableViolation c.args.subject.now c.args.lock.0 c.args.component.0 c.args.callback)) (sym (get_or_read_under c.index-all-lock.result.items (8 * c.args.component.0 + c.args.callback) (length c.index-all-lock.result.items) c.index.result.now 0 c.index.ensures (omega (arith, there.len, below)) refl)) (there.each c.args.component.0 c.args.callback c.requires.callback below)
