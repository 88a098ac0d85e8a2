use Rattle.run_model.proofs.Worked.{call_runs, lock_runs, plain_runs}
use Rattle.run_model.proofs.laws.worked_runs.Goals as goal

pub returns-clause-division : goal.returns-clause-division
returns-clause-division c = plain_runs.division

pub returns-clause-literal : goal.returns-clause-literal
returns-clause-literal c = plain_runs.literal

pub returns-clause-wide_read : goal.returns-clause-wide_read
returns-clause-wide_read c = plain_runs.wide_read

pub returns-clause-null_monitor : goal.returns-clause-null_monitor
returns-clause-null_monitor c = plain_runs.null_monitor

pub returns-clause-monitor : goal.returns-clause-monitor
returns-clause-monitor c = plain_runs.monitor

pub returns-clause-null_store : goal.returns-clause-null_store
returns-clause-null_store c = plain_runs.null_store

pub returns-clause-store : goal.returns-clause-store
returns-clause-store c = plain_runs.store

pub returns-clause-switch : goal.returns-clause-switch
returns-clause-switch c = plain_runs.switch

pub returns-clause-zero : goal.returns-clause-zero
returns-clause-zero c = plain_runs.zero

pub returns-clause-nonzero : goal.returns-clause-nonzero
returns-clause-nonzero c = plain_runs.nonzero

pub returns-clause-up : goal.returns-clause-up
returns-clause-up c = plain_runs.up

pub returns-clause-down : goal.returns-clause-down
returns-clause-down c = plain_runs.down

pub returns-clause-held : goal.returns-clause-held
returns-clause-held c = lock_runs.held

pub returns-clause-free : goal.returns-clause-free
returns-clause-free c = lock_runs.free

pub returns-clause-release : goal.returns-clause-release
returns-clause-release c = lock_runs.release

pub returns-clause-escape : goal.returns-clause-escape
returns-clause-escape c = lock_runs.escape

pub returns-clause-throws : goal.returns-clause-throws
returns-clause-throws c = lock_runs.throws

pub returns-clause-lost : goal.returns-clause-lost
returns-clause-lost c = lock_runs.lost

pub returns-clause-kept : goal.returns-clause-kept
returns-clause-kept c = lock_runs.kept

pub returns-clause-cleared : goal.returns-clause-cleared
returns-clause-cleared c = lock_runs.cleared

pub returns-clause-receiver : goal.returns-clause-receiver
returns-clause-receiver c = lock_runs.receiver

pub returns-clause-service : goal.returns-clause-service
returns-clause-service c = lock_runs.service

pub returns-clause-outside : goal.returns-clause-outside
returns-clause-outside c = lock_runs.outside

pub returns-clause-static_call : goal.returns-clause-static_call
returns-clause-static_call c = call_runs.static_call

pub returns-clause-static_return : goal.returns-clause-static_return
returns-clause-static_return c = call_runs.static_return

pub returns-clause-through : goal.returns-clause-through
returns-clause-through c = call_runs.through

pub returns-clause-overriding : goal.returns-clause-overriding
returns-clause-overriding c = call_runs.overriding

pub returns-clause-super_call : goal.returns-clause-super_call
returns-clause-super_call c = call_runs.super_call

pub returns-clause-leads_outside : goal.returns-clause-leads_outside
returns-clause-leads_outside c = call_runs.leads_outside

pub returns-clause-no_receiver : goal.returns-clause-no_receiver
returns-clause-no_receiver c = call_runs.no_receiver

pub returns-clause-null_receiver : goal.returns-clause-null_receiver
returns-clause-null_receiver c = call_runs.null_receiver

pub returns-clause-rest : goal.returns-clause-rest
returns-clause-rest c = call_runs.rest

pub returns-clause-counted : goal.returns-clause-counted
returns-clause-counted c = call_runs.counted

pub returns-clause-first_slowest : goal.returns-clause-first_slowest
returns-clause-first_slowest c = call_runs.first_slowest

pub returns-clause-no_such_start : goal.returns-clause-no_such_start
returns-clause-no_such_start c = call_runs.no_such_start
