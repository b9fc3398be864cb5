mod FourSquares
