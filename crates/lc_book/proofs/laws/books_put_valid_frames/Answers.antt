use Rattle.lc_book.proofs.ValidFrames.{every_book_puts_valid_frames}
use Rattle.lc_book.proofs.laws.books_put_valid_frames.Goals as goal

pub returns : goal.returns
returns c = every_book_puts_valid_frames
