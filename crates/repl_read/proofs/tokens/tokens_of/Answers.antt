-- A token more, or a blank.
use Rattle.std.proofs.Common.{◌≡◌, Some, None}
use Rattle.repl_read.proofs.TokenLemmas.{token_more, no_token_more}
use Rattle.repl_read.proofs.tokens.tokens_of.Goals as goal

pub tokens-preserved-in_ok-push : goal.tokens-preserved-in_ok-push
tokens-preserved-in_ok-push c =
    let step = c.in_ok-token.ensures {u = tt} in
    let is : c.in_ok-token.field-0.token ≡ Some c.in-Some.token = cc in
    record {
      within = step.within;
      read =
          rw (c.in_ok-push.ensures {u = tt}).items
          (token_more c.args.line.now c.tokens.start c.in_ok-token.field-0 c.in-Some.token c.tokens.made.items _ step is
          c.tokens.invariant.read);
    }

pub tokens-preserved : goal.tokens-preserved
tokens-preserved c =
    let step = c.in_ok-token.ensures {u = tt} in
    let is : c.in_ok-token.field-0.token ≡ None = cc in
    record {
      within = step.within;
      read =
          no_token_more c.args.line.now c.tokens.start c.in_ok-token.field-0 c.tokens.made.items _ step is
          c.tokens.invariant.read;
    }
