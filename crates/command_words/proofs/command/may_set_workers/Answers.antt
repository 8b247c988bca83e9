use Rattle.std.specs.Prelude.{string_bytes}
use Rattle.std.specs.declared.alloc.Global.{Global}
use Rattle.command_words.specs.declared.settings.Setting.TheVariants.{Workers}
use Rattle.command_words.proofs.WorkersWords.{more_may_not, two_may, two_may_not}
use Rattle.command_words.proofs.command.may_set_workers.Goals as goal

pub returns-in-Some-Workers : goal.returns-in-Some-Workers
returns-in-Some-Workers c =
    two_may (string_bytes {Z = Global}) c.args.words.now c.flag-item.result c.number-item.result c.in-Some-Workers.field-0-0 c.in-len2.len_at_least c.in-len2.len_below c.flag-item.is c.number-item.is
    (rw (← c.as_str.ensures.value, ← c.as_str-in-len2.ensures.value, ← c.in-Some-Workers.field-0-is) c.in-Some-Workers.ensures)

pub returns-in_default-matches-2 : goal.returns-in_default-matches-2
returns-in_default-matches-2 c =
    two_may_not (string_bytes {Z = Global}) c.args.words.now c.flag-item.result c.number-item.result c.in-len2.len_at_least c.in-len2.len_below c.flag-item.is c.number-item.is
    (λ n. rw (← c.as_str.ensures.value, ← c.as_str-in-len2.ensures.value) (let none = rw c.in_default-matches.is at c.setting_of.ensures in none (Workers n)))

pub returns-in_default-2 : goal.returns-in_default-2
returns-in_default-2 c = more_may_not (string_bytes {Z = Global}) c.args.words.now c.in_default.len_at_least
