use Rattle.std.proofs.Common.{rules}
use Rattle.json_print.proofs.Escapes.{short_of, short_quote, short_backslash, short_b, short_f, short_n, short_r, short_t, no_letter}
use Rattle.json_print.proofs.escaped.short_escape.Goals as goal

pub returns-in-34-clause-short : goal.returns-in-34-clause-short
returns-in-34-clause-short c = short_of _ _ _ c.in-34.is short_quote

pub returns-in-92-clause-short : goal.returns-in-92-clause-short
returns-in-92-clause-short c = short_of _ _ _ c.in-92.is short_backslash

pub returns-in-8-clause-short : goal.returns-in-8-clause-short
returns-in-8-clause-short c = short_of _ _ _ c.in-8.is short_b

pub returns-in-12-clause-short : goal.returns-in-12-clause-short
returns-in-12-clause-short c = short_of _ _ _ c.in-12.is short_f

pub returns-in-10-clause-short : goal.returns-in-10-clause-short
returns-in-10-clause-short c = short_of _ _ _ c.in-10.is short_n

pub returns-in-13-clause-short : goal.returns-in-13-clause-short
returns-in-13-clause-short c = short_of _ _ _ c.in-13.is short_r

pub returns-in-9-clause-short : goal.returns-in-9-clause-short
returns-in-9-clause-short c = short_of _ _ _ c.in-9.is short_t

pub returns-in_default-clause-none : goal.returns-in_default-clause-none
returns-in_default-clause-none c = no_letter c.args.c (search rules) (search rules) (search rules) (search rules) (search rules) (search rules) (search rules)
