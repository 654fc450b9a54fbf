use Rattle.std.proofs.Common.{◌≤◌, ◌∙◌, length, drop, inr, sym, true, length-drop, arith}
use Rattle.posix_regex.specs.Token.{token_of}
use Rattle.posix_regex.specs.Pattern.{nothing_read, read_from}
use Rattle.posix_regex.proofs.Members.{rest_is}
use Rattle.posix_regex.proofs.Reading.{read_from-bad_token, read_from-adds, read_from-fault, read_from-nil}
use Rattle.posix_regex.proofs.pattern.read_pattern.Goals as goal

pub returns-in-Err : goal.returns-in-Err
returns-in-Err c =
    let rest = rest_is c.args.pattern.now c.loop-at.at in
    inr (sym c.loop-at.invariant.reads.2 ∙ read_from-bad_token c.args.extended c.args.fold c.loop-at.at c.loop-at.at c.args.pattern.now c.loop-at.begins c.loop-at.bare c.loop-at.invariant.reads.0 (c.in-Err.offset, c.in-Err.cause) (omega arith) (rw rest at c.in-Err.ensures.value))

pub returns-in-Err-add_token : goal.returns-in-Err-add_token
returns-in-Err-add_token c =
    let rest = rest_is c.args.pattern.now c.loop-at.at in
    let reads = c.loop-at.invariant.reads in
    read_from-fault c.args.extended c.args.fold c.loop-at.at c.loop-at.at c.args.pattern.now c.loop-at.begins c.loop-at.bare reads.0
    (read_from c.args.extended c.args.fold 0 0 c.args.pattern.now true true nothing_read) (token_of c.in-Ok.read.0) c.in-Ok.read.1 c.in-Err-add_token.cause c.fault_of.result
    (omega arith) (rw rest at c.in-Ok.ensures.value) reads.2 (c.in-Err-add_token.ensures reads.0 reads.1) c.fault_of.ensures.cause c.fault_of.ensures.none c.fault_of.ensures.place

pub loop-at-preserved : goal.loop-at-preserved
loop-at-preserved c =
    let rest = rest_is c.args.pattern.now c.loop-at.at in
    let reads = c.loop-at.invariant.reads in
    let within : c.in-Ok.read.1 ≤ length (drop c.loop-at.at c.args.pattern.now) = rw rest at c.in-Ok.ensures.within in
    record {
      within = omega (arith, within, length-drop c.loop-at.at c.args.pattern.now);
      reads = rw (c.begins_after-begins.ensures, c.bare_after-bare.ensures) (read_from-adds c.args.extended c.args.fold c.loop-at.at c.loop-at.at c.args.pattern.now c.loop-at.begins c.loop-at.bare reads.0
          (read_from c.args.extended c.args.fold 0 0 c.args.pattern.now true true nothing_read) c.in-Ok-add_token.more (token_of c.in-Ok.read.0) c.in-Ok.read.1
          (omega arith) (rw rest at c.in-Ok.ensures.value) c.in-Ok.ensures.some reads.2 (c.in-Ok-add_token.ensures reads.0 reads.1));
    }

pub returns : goal.returns
returns c =
    let reads = c.loop-at.invariant.reads in
    let e = read_from-nil c.args.extended c.args.fold c.loop-at.at c.loop-at.at c.args.pattern.now c.loop-at.begins c.loop-at.bare reads.0 (omega arith) in
    rw (← reads.2, e) (c.finish.ensures reads.0 reads.1)
