use Rattle.std.proofs.Common.{◌+◌, ◌≡◌, ◌≤◌, length, drop, arith, rules, length-drop}
use Rattle.posix_regex.specs.Bracket.{members_first}
use Rattle.posix_regex.proofs.Members.{Reads-first, Reads-more, Reads-closed, Reads-fault, Reads-nil, members_first-fault, members_first-nil, rest_is}
use Rattle.posix_regex.proofs.bracket.read_members.Goals as goal

pub returns-then-is_empty-clause-value : goal.returns-then-is_empty-clause-value
returns-then-is_empty-clause-value c = members_first-nil c.args.start c.args.text.now (search rules)

pub returns-in-Err-clause-value : goal.returns-in-Err-clause-value
returns-in-Err-clause-value c = members_first-fault c.args.start c.in-Err.fault c.args.text.now (search rules) c.in-Err.ensures.value

pub loop-at-init : goal.loop-at-init
loop-at-init c = record {
  within = c.in-Ok.ensures.within;
  some = c.in-Ok.ensures.some;
  reads = Reads-first c.new.result c.in-Ok.read.0 c.args.start c.in-Ok.read.1 c.args.text.now (search rules) c.new.ensures c.in-Ok.ensures.value c.in-Ok.ensures.some;
}

pub returns-then-text-at-eq93-clause-value : goal.returns-then-text-at-eq93-clause-value
returns-then-text-at-eq93-clause-value c =
    Reads-closed c.loop-at.set (c.args.start + c.loop-at.at) c.loop-at.at c.args.text.now (members_first c.args.start c.args.text.now) (omega arith) (omega arith) c.loop-at.invariant.reads

pub returns-in-Err-insert_member-clause-value : goal.returns-in-Err-insert_member-clause-value
returns-in-Err-insert_member-clause-value c =
    let rest = rest_is c.args.text.now c.loop-at.at in
    Reads-fault c.loop-at.set (c.args.start + c.loop-at.at) c.loop-at.at c.args.text.now (members_first c.args.start c.args.text.now) c.in-Err-insert_member.fault (omega arith) (λ e. c.if-text-at-eq93.false e) (rw rest at c.in-Err-insert_member.ensures.value) c.loop-at.invariant.reads

pub loop-at-preserved : goal.loop-at-preserved
loop-at-preserved c =
    let rest = rest_is c.args.text.now c.loop-at.at in
    let n = c.in-Ok-insert_member.read.1 in
    let within : n ≤ length (drop c.loop-at.at c.args.text.now) = rw rest at c.in-Ok-insert_member.ensures.within in
    record {
      within = omega (arith, within, length-drop c.loop-at.at c.args.text.now);
      some = omega arith;
      reads =
          let e : c.args.start + (c.loop-at.at + n) ≡ c.args.start + c.loop-at.at + n = omega arith in
          rw e (Reads-more c.loop-at.set c.in-Ok-insert_member.read.0 (c.args.start + c.loop-at.at) c.loop-at.at n c.args.text.now (members_first c.args.start c.args.text.now) (omega arith) (λ e. c.if-text-at-eq93.false e) (rw rest at c.in-Ok-insert_member.ensures.value) c.in-Ok-insert_member.ensures.some c.loop-at.invariant.reads);
    }

pub returns-clause-value : goal.returns-clause-value
returns-clause-value c =
    Reads-nil c.loop-at.set (c.args.start + c.loop-at.at) c.loop-at.at c.args.text.now (members_first c.args.start c.args.text.now) (omega arith) c.loop-at.invariant.reads
