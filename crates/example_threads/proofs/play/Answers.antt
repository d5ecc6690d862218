use Rattle.example_threads.proofs.play.Goals as goal

pub returns : goal.returns
returns g c = record {
  same = record {
    sending = c.join-pumps.ensures.second.0;
    receiving = c.join-pumps.ensures.second.1;
    reading = c.join-pumps.ensures.first.0.same;
    writing = c.join-pumps.ensures.first.1;
  };
  heard = c.join-pumps.ensures.first.0;
}
