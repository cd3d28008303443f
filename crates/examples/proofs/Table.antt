-- Every row of the table, by computation.
use mathlib.Core.Path.{refl}
use Rattle.examples.specs.Examples.{Statement, table, hex, post_text, two_lengths, post_binary, figure13}
use Rattle.examples.specs.Computing.{computing}

pub examples : Statement
unfolding computing table hex post_text two_lengths post_binary figure13
examples = (
  refl,
  (
    refl,
    (
      refl,
      (
        (refl, refl),
        (
          refl,
          (
            refl,
            (
              refl,
              (
                (refl, refl),
                (
                  (refl, refl),
                  (
                    refl,
                    (
                      (refl, refl),
                      (
                        (refl, refl),
                        (
                          (refl, refl),
                          (
                            (refl, refl),
                            (
                              (refl, refl),
                              (
                                (refl, refl),
                                (
                                  (refl, refl),
                                  (
                                    (refl, refl),
                                    tt,
                                  ),
                                ),
                              ),
                            ),
                          ),
                        ),
                      ),
                    ),
                  ),
                ),
              ),
            ),
          ),
        ),
      ),
    ),
  ),
)
