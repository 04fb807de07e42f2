use native.Mathlib.Omega.{arith}
use mathlib.Core.List.{[]}
use Rattle.rules.specs.Setups.{setup_with}
use Rattle.rules.proofs.Setups.{ranged}
use Rattle.fresh.proofs.head_of.Goals as goal

pub overflow_cast-result : goal.overflow_cast-result
overflow_cast-result c = let r = ranged (setup_with c.args.s []) c.requires in omega arith

pub phases_byte-requires : goal.phases_byte-requires
phases_byte-requires c = let r = ranged (setup_with c.args.s []) c.requires in omega arith

pub overflow_cast-result-2 : goal.overflow_cast-result-2
overflow_cast-result-2 c = let r = ranged (setup_with c.args.s []) c.requires in omega arith

pub overflow_cast-result-3 : goal.overflow_cast-result-3
overflow_cast-result-3 c = let r = ranged (setup_with c.args.s []) c.requires in omega arith

pub overflow_cast-result-4 : goal.overflow_cast-result-4
overflow_cast-result-4 c = let r = ranged (setup_with c.args.s []) c.requires in omega arith

pub overflow_cast-result-5 : goal.overflow_cast-result-5
overflow_cast-result-5 c = let r = ranged (setup_with c.args.s []) c.requires in omega arith
