use Rattle.std.proofs.Common.{arith}
use Rattle.std.specs.Prelude.{string_bytes, map}
use Rattle.std.specs.declared.alloc.Global.{Global}
use Rattle.std.proofs.lemmas.Bool.Decides.{nat_tests}
use Rattle.command_words.proofs.SplitWords.{all_read, two_read, two_refused}
use Rattle.command_words.proofs.settings.limits_of.Goals as goal

pub loop-rest-preserved : goal.loop-rest-preserved
loop-rest-preserved c =
    two_read (string_bytes {Z = Global}) (map string_bytes c.args.words.now) c.loop-rest.rest.now c.flag-item.result c.number-item.result c.loop-rest.settings c.in_ok-settings.settings c.in_ok-setting.setting
    c.in-len2-up.len_at_least c.flag-item.is c.number-item.is c.loop-rest.invariant (rw (← c.as_str.ensures.value, ← c.as_str-in-len2-up.ensures.value) c.in_ok-setting.ensures) c.in_ok-settings.ensures

pub returns-in_err-settings : goal.returns-in_err-settings
returns-in_err-settings c = rw c.from_residual-in_err-settings.ensures
    (two_refused (string_bytes {Z = Global}) (map string_bytes c.args.words.now) c.loop-rest.rest.now c.flag-item.result c.number-item.result c.loop-rest.settings c.in_ok-setting.setting
    c.in-len2-up.len_at_least c.flag-item.is c.number-item.is c.loop-rest.invariant (rw (← c.as_str.ensures.value, ← c.as_str-in-len2-up.ensures.value) c.in_ok-setting.ensures) c.in_err-settings.ensures)

pub returns-then-is_empty : goal.returns-then-is_empty
returns-then-is_empty c = all_read (string_bytes {Z = Global}) (map string_bytes c.args.words.now) c.loop-rest.rest.now c.loop-rest.settings c.limits.result (grind (arith, nat_tests)) c.loop-rest.invariant c.limits.ensures
