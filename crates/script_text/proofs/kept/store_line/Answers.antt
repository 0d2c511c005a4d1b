use Rattle.std.proofs.Common.{◌≡◌, ◌∙◌, ◌++◌, [], List, sym, subst}
use Rattle.std.proofs.lemmas.List.{append-nil}
use Rattle.script_text.specs.Kept.{KeepsSome}
use Rattle.script_text.specs.Live.{PlainLive}
use Rattle.script_text.proofs.KeptSteps.{adds_of, asked, unasked}
use Rattle.script_text.proofs.kept.store_line.Goals as goal

pub returns-in-Done-clause-stored : goal.returns-in-Done-clause-stored
returns-in-Done-clause-stored g c = λ told stored gone going over live some.
    let first = c.in_ok-keep_all.ensures.keeps told stored [] gone going over some in
    let second = c.in_ok-keep_all-2.ensures.keeps told stored gone going [] live
    (subst (λ (l : List PlainLive). KeepsSome g.D.Disk.seen g.D.Disk.time g.D.Disk.left c.keep_all.new.store stored gone l) (sym (append-nil going)) first) in
    (stored ++ second.waiting, c.store.ensures.stored told c.in-Done.is stored second.waiting second.stores, adds_of g.D.Disk.seen g.D.Disk.time g.D.Disk.left c.keep_all-2.new.store stored (gone ++ going) second)

pub returns-in-Done-clause-any_moment : goal.returns-in-Done-clause-any_moment
returns-in-Done-clause-any_moment g c = λ told stored gone going over live some.
    let first = c.in_ok-keep_all.ensures.keeps told stored [] gone going over some in
    let second = c.in_ok-keep_all-2.ensures.keeps told stored gone going [] live
    (subst (λ (l : List PlainLive). KeepsSome g.D.Disk.seen g.D.Disk.time g.D.Disk.left c.keep_all.new.store stored gone l) (sym (append-nil going)) first) in
    asked g.D.Disk.seen g.D.Disk.time g.D.Disk.left c.args.store.now c.keep_all-2.new.store c.store.new.self stored (gone ++ going) (c.keep_all-2.ensures.file ∙ c.keep_all.ensures.file) second
    (c.store.ensures.any_moment told stored second.waiting second.stores)

pub returns-in-Failed-clause-any_moment : goal.returns-in-Failed-clause-any_moment
returns-in-Failed-clause-any_moment g c = λ told stored gone going over live some.
    let first = c.in_ok-keep_all.ensures.keeps told stored [] gone going over some in
    let second = c.in_ok-keep_all-2.ensures.keeps told stored gone going [] live
    (subst (λ (l : List PlainLive). KeepsSome g.D.Disk.seen g.D.Disk.time g.D.Disk.left c.keep_all.new.store stored gone l) (sym (append-nil going)) first) in
    asked g.D.Disk.seen g.D.Disk.time g.D.Disk.left c.args.store.now c.keep_all-2.new.store c.store.new.self stored (gone ++ going) (c.keep_all-2.ensures.file ∙ c.keep_all.ensures.file) second
    (c.store.ensures.any_moment told stored second.waiting second.stores)

pub returns-in-Spent-clause-any_moment : goal.returns-in-Spent-clause-any_moment
returns-in-Spent-clause-any_moment g c = λ told stored gone going over live some.
    let first = c.in_ok-keep_all.ensures.keeps told stored [] gone going over some in
    let second = c.in_ok-keep_all-2.ensures.keeps told stored gone going [] live
    (subst (λ (l : List PlainLive). KeepsSome g.D.Disk.seen g.D.Disk.time g.D.Disk.left c.keep_all.new.store stored gone l) (sym (append-nil going)) first) in
    asked g.D.Disk.seen g.D.Disk.time g.D.Disk.left c.args.store.now c.keep_all-2.new.store c.store.new.self stored (gone ++ going) (c.keep_all-2.ensures.file ∙ c.keep_all.ensures.file) second
    (c.store.ensures.any_moment told stored second.waiting second.stores)

pub returns-in-Full-clause-any_moment : goal.returns-in-Full-clause-any_moment
returns-in-Full-clause-any_moment g c = λ told stored gone going over live some.
    let first = c.in_ok-keep_all.ensures.keeps told stored [] gone going over some in
    let second = c.in_ok-keep_all-2.ensures.keeps told stored gone going [] live
    (subst (λ (l : List PlainLive). KeepsSome g.D.Disk.seen g.D.Disk.time g.D.Disk.left c.keep_all.new.store stored gone l) (sym (append-nil going)) first) in
    asked g.D.Disk.seen g.D.Disk.time g.D.Disk.left c.args.store.now c.keep_all-2.new.store c.store.new.self stored (gone ++ going) (c.keep_all-2.ensures.file ∙ c.keep_all.ensures.file) second
    (c.store.ensures.any_moment told stored second.waiting second.stores)

pub returns-in_err-keep_all-clause-any_moment : goal.returns-in_err-keep_all-clause-any_moment
returns-in_err-keep_all-clause-any_moment g c = λ told stored gone going over live some.
    unasked g.D.Disk.seen g.D.Disk.time g.D.Disk.left c.args.store.now c.keep_all.new.store stored (gone ++ going) some c.keep_all.ensures.file

pub returns-in_err-keep_all-2-clause-any_moment : goal.returns-in_err-keep_all-2-clause-any_moment
returns-in_err-keep_all-2-clause-any_moment g c = λ told stored gone going over live some.
    unasked g.D.Disk.seen g.D.Disk.time g.D.Disk.left c.args.store.now c.keep_all-2.new.store stored (gone ++ going) some (c.keep_all-2.ensures.file ∙ c.keep_all.ensures.file)
