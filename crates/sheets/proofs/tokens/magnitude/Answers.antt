-- Digits from the left, with a top.
use Rattle.std.proofs.Common.{◌≡◌, ◌+◌, get_or, drop, Some, sym, ap, ◌∙◌, arith}
use Rattle.std.proofs.lemmas.List.{at_drop_more, at_drop_all}
use Rattle.sheets.specs.Numbers.{capped}
use Rattle.sheets.proofs.Digits.{reads, reads_more, reads_stop, digit_some, digit_none}
use Rattle.sheets.proofs.tokens.magnitude.Goals as goal

pub loop-byte-preserved : goal.loop-byte-preserved
loop-byte-preserved c =
    let text = c.args.text.now in
    let i = c.loop-byte.byte-index in
    let d = digit_some (get_or text i 0) c.in_ok-digit.digit c.in_ok-digit.ensures in (
      omega arith,
      sym (reads_more c.loop-byte.n c.saturating_add-n.result (get_or text i 0) (drop (i + 1) text) d.0 (omega arith))
          ∙ sym (at_drop_more (reads c.loop-byte.n) text i 0 (omega arith))
          ∙ c.loop-byte.invariant.1,
    )

pub returns : goal.returns
returns c =
    let text = c.args.text.now in
    let i = c.loop-byte.byte-index in
    let e : capped c.loop-byte.n ≡ c.loop-byte.n = omega arith in
    ap Some (sym e) ∙ sym (at_drop_all (reads c.loop-byte.n) text i (omega arith)) ∙ c.loop-byte.invariant.1

pub returns-in_err-digit : goal.returns-in_err-digit
returns-in_err-digit c =
    let text = c.args.text.now in
    let i = c.loop-byte.byte-index in
    c.from_residual.ensures
    ∙ sym (reads_stop c.loop-byte.n (get_or text i 0) (drop (i + 1) text) (digit_none (get_or text i 0) c.in_err-digit.ensures))
    ∙ sym (at_drop_more (reads c.loop-byte.n) text i 0 (omega arith))
    ∙ c.loop-byte.invariant.1
