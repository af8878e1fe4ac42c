mod OnState
