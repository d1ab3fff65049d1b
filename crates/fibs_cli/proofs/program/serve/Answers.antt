use Rattle.std.proofs.Common.{◌++◌, ◌∷◌, []}
use Rattle.std.proofs.KnownBytes.{Keeps-refl}
use Rattle.fibs_cli.specs.Program.{Streams, streams, Played}
use Rattle.fibs_cli.proofs.ProgramLemmas.{showed, listed, printed, ran_script, served_replay, served_show, served_plays, served_loop, showed_objects, served_objects, showed_events, served_events, listed_object, listed_word, for_word, served_listed, ran_objects, served_ran}
use Rattle.fibs_cli.proofs.program.serve.Goals as goal

pub returns-in-Show : goal.returns-in-Show
returns-in-Show g c =
    let told = c.show.ensures in
    let input = g.R.Read.remaining in
    let out = g.W.Write.contents in
    let err = g.E.Write.contents c.args.err.now in
    let a : Streams = streams (input c.args.input.now) (out c.args.out.now) err in
    let b : Streams = streams (input c.show.new.reader) (out c.show.new.writer) err in
    served_show c.args.request c.show.result a b c.in-Show.is
    (showed c.show.result a b told.status told.whole told.end told.device told.memory) (Keeps-refl err)

pub returns-in-ShowJson : goal.returns-in-ShowJson
returns-in-ShowJson g c =
    let told = c.show_json.ensures in
    let input = g.R.Read.remaining in
    let out = g.W.Write.contents in
    let err = g.E.Write.contents c.args.err.now in
    let a : Streams = streams (input c.args.input.now) (out c.args.out.now) err in
    let b : Streams = streams (input c.show_json.new.reader) (out c.show_json.new.writer) err in
    served_objects c.args.request c.show_json.result a b c.in-ShowJson.is
    (showed_objects c.show_json.result a b told.status told.whole told.end told.device told.memory) (Keeps-refl err)

pub returns-in-ShowEvents : goal.returns-in-ShowEvents
returns-in-ShowEvents g c =
    let told = c.show_events.ensures in
    let input = g.R.Read.remaining in
    let out = g.W.Write.contents in
    let err = g.E.Write.contents c.args.err.now in
    let a : Streams = streams (input c.args.input.now) (out c.args.out.now) err in
    let b : Streams = streams (input c.show_events.new.reader) (out c.show_events.new.writer) err in
    served_events c.args.request c.show_events.result a b c.in-ShowEvents.is
    (showed_events c.show_events.result a b told.status told.whole told.end told.device told.memory)
    (Keeps-refl err)

pub returns-in-Replay : goal.returns-in-Replay
returns-in-Replay g c =
    let told = c.replay.ensures in
    let input = g.R.Read.remaining in
    let out = g.W.Write.contents in
    let err = g.E.Write.contents c.args.err.now in
    let a : Streams = streams (input c.args.input.now) (out c.args.out.now) err in
    let b : Streams = streams (input c.replay.new.reader) (out c.replay.new.writer) err in
    served_replay c.args.request c.replay.result a b c.in-Replay.is
    (ran_script c.replay.result a b told.done told.device told.memory) (Keeps-refl err)

pub returns-in-Plays : goal.returns-in-Plays
returns-in-Plays g c =
    let told = c.plays.ensures in
    let r = c.plays.result in
    let input = g.R.Read.remaining c.args.input.now in
    let out = g.W.Write.contents in
    let err = g.E.Write.contents in
    let a : Streams = streams input (out c.args.out.now) (err c.args.err.now) in
    let b : Streams = streams input (out c.plays.new.out) (err c.plays.new.err) in
    let played : Played c.told_line.result.now r a b = (
      λ board is good. (
        listed r board a b (told.good board is good) (told.good_device board is good)
            (λ failed. (told.memory failed).0),
        told.good_silent board is good,
      ),
      λ reading why is refusal. (
        printed r 3 (why ++ (10 ∷ [])) a.err b.err (told.refused reading why is refusal),
        told.refused_silent reading why is refusal,
      ),
    ) in
    served_plays c.args.request c.in-Plays.word r a b c.in-Plays.is
    (for_word c.in-Plays.word.now c.as_bytes.result.now c.told_line.result.now r a b c.as_bytes.ensures.value
    c.told_line.ensures played) (Keeps-refl input)

pub returns-in-Loop : goal.returns-in-Loop
returns-in-Loop g c =
    let input = g.R.Read.remaining in
    let out = g.W.Write.contents in
    let err = g.E.Write.contents c.args.err.now in
    served_loop c.args.request c.play_here.result
    (streams (input c.args.input.now) (out c.args.out.now) err)
    (streams (input c.play_here.new.input) (out c.play_here.new.out) err)
    c.in-Loop.is c.play_here.ensures (Keeps-refl err)

pub returns-in-PlaysJson : goal.returns-in-PlaysJson
returns-in-PlaysJson g c =
    let told = c.plays_json.ensures in
    let r = c.plays_json.result in
    let input = g.R.Read.remaining c.args.input.now in
    let out = g.W.Write.contents in
    let err = g.E.Write.contents c.args.err.now in
    let a : Streams = streams input (out c.args.out.now) err in
    let b : Streams = streams input (out c.plays_json.new.out) err in
    let line = c.told_line-in-PlaysJson.result.now in
    served_listed c.args.request c.in-PlaysJson.word r a b c.in-PlaysJson.is
    (listed_word c.in-PlaysJson.word.now c.as_bytes-in-PlaysJson.result.now line r a b
    c.as_bytes-in-PlaysJson.ensures.value c.told_line-in-PlaysJson.ensures
    (listed_object r line a b told.done told.device told.memory)) (Keeps-refl input) (Keeps-refl err)

pub returns-in-ReplayJson : goal.returns-in-ReplayJson
returns-in-ReplayJson g c =
    let told = c.replay_json.ensures in
    let input = g.R.Read.remaining in
    let out = g.W.Write.contents in
    let err = g.E.Write.contents c.args.err.now in
    let a : Streams = streams (input c.args.input.now) (out c.args.out.now) err in
    let b : Streams = streams (input c.replay_json.new.reader) (out c.replay_json.new.writer) err in
    served_ran c.args.request c.replay_json.result a b c.in-ReplayJson.is
    (ran_objects c.replay_json.result a b told.done told.device told.memory) (Keeps-refl err)
